pub mod Ends
pub mod Granted
pub mod Product
