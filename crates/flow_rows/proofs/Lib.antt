pub mod Rows
pub mod Laying
pub mod Reading
pub mod Carrying
