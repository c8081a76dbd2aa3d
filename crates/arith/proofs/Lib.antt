pub mod Halvings
pub mod Index
pub mod Table
