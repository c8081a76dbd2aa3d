pub mod Answered
pub mod Answers
pub mod Children
pub mod Counts
pub mod Flat
pub mod RingEnds
pub mod Rounds
pub mod Wide
mod Words
pub mod Writing
