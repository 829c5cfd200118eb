pub mod Folding
pub mod WordLaws
pub mod RowLaws
pub mod Pens
pub mod Examples
pub mod OnlyResults
