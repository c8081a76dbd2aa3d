pub mod Cells
pub mod Invariant
pub mod Past
pub mod Reading
pub mod Sequence
