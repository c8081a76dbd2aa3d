pub mod Agree
pub mod Demand3
pub mod Direct
pub mod Flat
pub mod Half
pub mod WeightedGuess
pub mod Written
