pub mod Fuel
pub mod Needed
pub mod Read
pub mod Standing
pub mod Turn
