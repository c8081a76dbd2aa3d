pub mod Average
pub mod Bounds
pub mod Range
pub mod Sizes
