pub mod Lister
pub mod Listing
