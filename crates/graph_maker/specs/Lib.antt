pub mod Cells
pub mod Sending
