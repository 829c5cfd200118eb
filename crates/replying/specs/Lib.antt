pub mod Writing
pub mod Records
pub mod Steps
