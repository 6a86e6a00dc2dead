pub mod MoodySeats
pub mod Outcomes
pub mod Staying
