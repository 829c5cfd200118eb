pub mod BoundLaws
pub mod Only
