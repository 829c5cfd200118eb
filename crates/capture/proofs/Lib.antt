pub mod Demand1
pub mod Sizes
pub mod Demand3
pub mod Needed
