pub mod LeafLemmas
pub mod FitLemmas
pub mod ErrorLemmas
mod RefusalLemmas
mod CheckLemmas
