pub mod Frames
pub mod Reach
pub mod Shape
pub mod Validation
pub mod Verdict
pub mod Visit
