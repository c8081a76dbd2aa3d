pub mod Bounded
pub mod Fill
pub mod Parts
pub mod Tests
pub mod Wrap
