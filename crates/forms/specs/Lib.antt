pub mod Forms
pub mod Targets
pub mod Answers
pub mod Automata
pub mod Steps
