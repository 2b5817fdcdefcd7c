pub mod AmountLemmas
pub mod EntryLemmas
pub mod LawLemmas
pub mod NewRowLemmas
pub mod SplitLemmas
pub mod SumLemmas
pub mod TellLemmas
pub mod TransferLemmas
