pub mod Domain
pub mod Gradient
pub mod Rows
pub mod Shortcut
pub mod StandardNeighbours
pub mod StandardPredictors
pub mod Sums
