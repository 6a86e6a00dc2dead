pub mod Slots
pub mod Forms
pub mod Lines
pub mod Valid
pub mod Laws
pub mod Results
pub mod Code
