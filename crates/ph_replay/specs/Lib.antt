pub mod Told
pub mod Lines
pub mod Tickets
pub mod Legal
pub mod State
pub mod Unentered
