pub mod Channel
pub mod Told
