pub mod CountLemmas
pub mod HalfLemmas
pub mod LeastLemmas
pub mod MaskLemmas
pub mod ReducedLemmas
pub mod SumLemmas
