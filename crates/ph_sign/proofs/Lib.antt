pub mod DecimalLemmas
pub mod ItemLemmas
pub mod HmacLemmas
pub mod VerdictLemmas
pub mod HeaderLemmas
