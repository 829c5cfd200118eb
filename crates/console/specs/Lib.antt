pub mod Bounds
pub mod Asked
