pub mod Five
pub mod Fuel
pub mod NoWrap
pub mod Standing
pub mod Turn
pub mod Wide
