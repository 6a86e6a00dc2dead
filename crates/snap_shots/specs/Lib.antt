pub mod HalfViews
pub mod Keeping
pub mod Sound
pub mod Ranks
pub mod FactViews
