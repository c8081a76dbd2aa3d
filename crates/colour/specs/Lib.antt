pub mod Restore
pub mod Rows
pub mod Standard
