pub mod Beginnings
pub mod Forms
pub mod Machine
pub mod Numbers
pub mod Roads
pub mod Stages
pub mod Reach
pub mod Pairs
