pub mod CallLemmas
pub mod CutLemmas
mod DecodedLemmas
mod DigitLemmas
pub mod EndLemmas
pub mod FirstLemmas
pub mod ItemLemmas
pub mod StatusLemmas
mod TalkLemmas
mod TokenLemmas
