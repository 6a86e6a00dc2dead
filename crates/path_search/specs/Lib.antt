pub mod Queue
pub mod Search
pub mod Steps
pub mod Answers
pub mod Lengths
pub mod Tree
pub mod Signed
