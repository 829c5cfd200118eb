pub mod Table15
