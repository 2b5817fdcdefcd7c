pub mod Flights
pub mod Worlds
pub mod Moves
pub mod Laws
pub mod Playing
