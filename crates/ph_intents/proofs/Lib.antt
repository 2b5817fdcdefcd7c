pub mod CaptureLemmas
mod EnterLemmas
mod FoundLemmas
mod HoldLemmas
pub mod KeepsLemmas
pub mod SettleLemmas
mod StatusLemmas
mod TextLemmas
