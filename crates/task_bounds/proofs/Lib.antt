pub mod Filled
pub mod Weighing
pub mod Taking
pub mod Summing
pub mod Readied
pub mod Freed
