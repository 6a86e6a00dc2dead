pub mod Answers
pub mod Network
pub mod Planted
pub mod Start
pub mod Cycles
pub mod Solved
pub mod Told
pub mod Weights
