pub mod PutLaws
pub mod LineLaws
pub mod Fits
pub mod AsItIs
pub mod Only
pub mod Examples
