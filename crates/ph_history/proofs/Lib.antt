pub mod EntryLemmas
pub mod WrittenLemmas
pub mod GrammarLemmas
pub mod TextLemmas
pub mod ReadLemmas
pub mod FaultLemmas
pub mod OnlyLemmas
