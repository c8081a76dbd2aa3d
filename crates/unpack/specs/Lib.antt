pub mod Bytes
pub mod Room
pub mod Tree
pub mod Steps
