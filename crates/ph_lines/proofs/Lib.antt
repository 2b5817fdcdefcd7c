pub mod SplitLemmas
pub mod FieldLemmas
pub mod LineLemmas
pub mod TextLemmas
pub mod WriteLemmas
