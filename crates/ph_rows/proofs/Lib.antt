pub mod BalanceLemmas
pub mod NameLemmas
pub mod RowLemmas
