pub mod Words
pub mod Tables
pub mod Rows
pub mod Pens
pub mod Names
