pub mod Child
pub mod Flatten
pub mod Offsets
pub mod Queue
pub mod Records
pub mod Ring
