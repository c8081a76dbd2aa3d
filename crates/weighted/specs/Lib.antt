pub mod Memory
pub mod State
pub mod Saved
