pub mod Session
pub mod Weights
