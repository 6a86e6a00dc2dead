pub mod Moods
pub mod Names
pub mod Watching
