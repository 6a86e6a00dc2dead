pub mod Answers
pub mod Facing
pub mod Loads
