pub mod CarriedLaws
pub mod Only
