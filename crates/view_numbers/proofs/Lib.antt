pub mod Walking
pub mod Gathering
pub mod Numbers
pub mod Rounds
