pub mod Handing
pub mod Opening
pub mod Refused
pub mod Unhanded
