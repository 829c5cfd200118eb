pub mod Lookup
pub mod Examples
pub mod Only
