pub mod AnswerLemmas
pub mod CallLemmas
