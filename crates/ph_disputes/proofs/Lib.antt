pub mod AnswerLemmas
mod FoundLemmas
mod HeldLemmas
pub mod OpeningLemmas
