pub mod Channel
pub mod Calls
pub mod Rows
