pub mod Rows
pub mod Tables
pub mod Places
pub mod Refusals
pub mod Roomy
pub mod Inside
