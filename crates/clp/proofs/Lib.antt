pub mod StateLaws
pub mod FaceLaws
pub mod Only
pub mod Demand1
