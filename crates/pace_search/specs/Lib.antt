pub mod Paces
pub mod Tree
pub mod Rounds
pub mod Climbs
pub mod Turns
pub mod Runs
pub mod Answers
