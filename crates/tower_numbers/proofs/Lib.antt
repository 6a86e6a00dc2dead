pub mod Firsts
pub mod Ranges
pub mod Eight
pub mod Living
pub mod Differing
pub mod Telling
pub mod Along
