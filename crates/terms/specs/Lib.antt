pub mod Signs
pub mod Terms
pub mod Rows
pub mod Scan
pub mod Marks
pub mod Going
pub mod RowWords
pub mod Quotes
