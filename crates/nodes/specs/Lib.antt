pub mod Nodes
pub mod Mask
