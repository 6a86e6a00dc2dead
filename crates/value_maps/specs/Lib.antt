pub mod Entries
pub mod LeastEntry
pub mod Views
pub mod Sound
