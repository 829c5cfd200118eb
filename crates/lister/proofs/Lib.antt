pub mod ListLaws
pub mod Only
pub mod Demand1
