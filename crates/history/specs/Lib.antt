pub mod Calls
pub mod Standard
