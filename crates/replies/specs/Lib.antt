pub mod Lines
pub mod Order
pub mod Reading
pub mod Items
pub mod Steps
pub mod Troubles
