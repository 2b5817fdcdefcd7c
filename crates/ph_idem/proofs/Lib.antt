pub mod ShapeLemmas
pub mod ListLemmas
pub mod OpenLemmas
pub mod FoundLemmas
pub mod KeptLemmas
