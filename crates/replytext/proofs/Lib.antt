pub mod TextLaws
pub mod Only
pub mod Examples
