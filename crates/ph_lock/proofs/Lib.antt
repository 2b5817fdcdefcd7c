pub mod Pigeons
pub mod Owns
pub mod BySeat
pub mod TurnSteps
pub mod SeatSteps
pub mod Keeps
pub mod Acts
pub mod TallyLemmas
