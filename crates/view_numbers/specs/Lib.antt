pub mod Listed
pub mod Breaches
pub mod Turned
