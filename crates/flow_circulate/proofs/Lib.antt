pub mod Shift
pub mod Answered
pub mod Found
pub mod Runs
