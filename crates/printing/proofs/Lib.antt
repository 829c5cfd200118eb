pub mod LineText
pub mod PrintLaws
pub mod LoopLaws
pub mod Bounds
pub mod Prints
pub mod Demand1
pub mod Only
