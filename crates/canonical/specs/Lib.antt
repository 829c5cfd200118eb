pub mod Canonical
pub mod Written
pub mod Writings
pub mod WrittenCase
