mod Opening
mod Turn
pub mod WeighAllLoop
