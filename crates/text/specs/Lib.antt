pub mod Lists
pub mod Bytes
pub mod Decimal
pub mod Room
