pub mod Reached
mod Sizes
mod Turn
