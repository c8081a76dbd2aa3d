pub mod Accepts
pub mod Answers
pub mod Demand3
pub mod Faults
pub mod Linear
pub mod Pending
pub mod Ranges
pub mod Sound
pub mod Steps
pub mod ToDo
mod Turns
pub mod Tree
pub mod Walk
