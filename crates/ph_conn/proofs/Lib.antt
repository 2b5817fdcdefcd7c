mod AnswerLemmas
mod DeskLemmas
mod FrontLemmas
mod ItemFacts
mod KeptLemmas
pub mod LawLemmas
mod LiveLemmas
mod PartLemmas
mod PlaceLemmas
mod ReadLemmas
mod ServedLemmas
mod SessionLemmas
mod SoloLemmas
mod TextLemmas
mod WorkLemmas
mod WriteLemmas
