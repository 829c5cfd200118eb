pub mod State
pub mod Face
