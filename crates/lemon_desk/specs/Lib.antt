pub mod Pool
pub mod Found
pub mod Told
pub mod Unfiled
