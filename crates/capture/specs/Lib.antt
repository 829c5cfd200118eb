pub mod Answers
pub mod Trust
