pub mod Dialers
pub mod MemDialers
