pub mod Laid
pub mod Network
