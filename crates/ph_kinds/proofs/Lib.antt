pub mod KeptLemmas
pub mod Utf8Lemmas
