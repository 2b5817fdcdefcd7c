mod AskedLemmas
mod EntryLemmas
mod FoundLemmas
pub mod LawLemmas
mod PartLemmas
