pub mod HalfLemmas
pub mod RankLemmas
