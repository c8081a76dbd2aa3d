pub mod Granted
mod Steps
