pub mod Lookups
pub mod Based
pub mod Ends
pub mod Following
pub mod Rooms
pub mod Layered
pub mod Staying
