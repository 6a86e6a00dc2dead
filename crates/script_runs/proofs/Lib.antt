pub mod Nothing
pub mod Results
pub mod Runs
mod Reached
pub mod Played
pub mod Endings
pub mod Handed
pub mod Clauses
mod Three
