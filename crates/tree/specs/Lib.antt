pub mod Tree
pub mod Marks
pub mod Path
pub mod Resolve
pub mod Steps
pub mod Ways
