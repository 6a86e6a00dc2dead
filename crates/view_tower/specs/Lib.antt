pub mod Levels
pub mod Layers
pub mod Origins
