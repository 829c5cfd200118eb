pub mod WayLaws
pub mod Only
