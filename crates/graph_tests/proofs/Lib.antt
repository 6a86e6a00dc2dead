pub mod Told
pub mod Back
pub mod Guarding
pub mod Halving
pub mod Following
