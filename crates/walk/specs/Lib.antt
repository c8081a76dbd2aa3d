pub mod Walk
pub mod Wide
