pub mod LimitLemmas
pub mod WideLemmas
