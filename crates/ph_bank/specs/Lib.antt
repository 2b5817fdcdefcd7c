pub mod Links
pub mod Polls
pub mod Drives
pub mod Patiences
pub mod Scripts
pub mod Simulation
pub mod Laws
