mod EntryLemmas
mod FoundLemmas
pub mod LawLemmas
mod ReturnLemmas
mod SpokenLemmas
