pub mod Histories
pub mod Added
pub mod Passes
pub mod Rule
pub mod Seats
pub mod Steps
pub mod Tallies
