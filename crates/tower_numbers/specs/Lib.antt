pub mod Live
pub mod Told
pub mod Values
