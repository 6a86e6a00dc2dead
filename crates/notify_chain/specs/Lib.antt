pub mod Seats
pub mod Lending
pub mod Leaving
pub mod Laws
