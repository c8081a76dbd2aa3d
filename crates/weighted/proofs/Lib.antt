pub mod Halves
pub mod Allowed
pub mod Turns
pub mod Copied
