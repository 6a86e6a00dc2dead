pub mod Fixed
pub mod Rows
pub mod Places
pub mod Told
pub mod Kept
pub mod Inside
