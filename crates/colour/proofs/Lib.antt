pub mod Planes
pub mod RowWithin
pub mod StandardColour
