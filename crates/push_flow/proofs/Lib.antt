pub mod Lists
pub mod Sums
pub mod Pushing
pub mod Scan
pub mod Waving
pub mod Shut
pub mod Cut
pub mod Start
