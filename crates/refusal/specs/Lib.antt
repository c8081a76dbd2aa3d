pub mod Paper
pub mod Shown
