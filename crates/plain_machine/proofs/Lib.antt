mod Alike
pub mod Apart
pub mod Once
mod Stepped
mod Sure
mod Ended
