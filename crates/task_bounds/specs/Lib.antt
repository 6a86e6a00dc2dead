pub mod Given
pub mod Excess
pub mod Plan
pub mod Barriers
pub mod Potentials
pub mod Answers
