pub mod Printing
pub mod Prints
pub mod Steps
