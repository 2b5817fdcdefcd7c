pub mod BalanceLemmas
pub mod IdLemmas
pub mod SearchLemmas
