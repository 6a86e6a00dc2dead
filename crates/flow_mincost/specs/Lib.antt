pub mod Rooms
pub mod Lengths
pub mod Pushing
pub mod Prices
pub mod Sent
