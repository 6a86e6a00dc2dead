mod Sent
mod Lines
mod Drawn
mod Whole
pub mod Asked
pub mod Valid
