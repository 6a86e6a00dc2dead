pub mod Turning
pub mod Matched
pub mod Paired
pub mod Runs
