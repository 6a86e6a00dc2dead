pub mod Tabling
pub mod Linking
pub mod Laying
pub mod Telling
pub mod Numbered
