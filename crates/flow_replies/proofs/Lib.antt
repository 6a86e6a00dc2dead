pub mod Picked
pub mod SameCosts
pub mod SameCuts
pub mod SamePairs
