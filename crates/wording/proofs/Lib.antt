pub mod WordingLaws
pub mod Only
pub mod Demand1
