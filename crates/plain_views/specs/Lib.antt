pub mod Shown
pub mod Adaptors
pub mod Towers
pub mod Marks
pub mod Renaming
pub mod BaseLaws
pub mod AdaptorLaws
pub mod TowerLaws
