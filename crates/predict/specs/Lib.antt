pub mod Neighbours
pub mod Predictors
pub mod Standard
