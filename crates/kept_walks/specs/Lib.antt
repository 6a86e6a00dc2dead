pub mod Stored
pub mod EndsProp
pub mod Falling
pub mod Whole
pub mod Parts
pub mod Present
pub mod Laws
