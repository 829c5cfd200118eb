pub mod Lines
pub mod Step
pub mod Join
pub mod Calls
