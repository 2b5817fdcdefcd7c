pub mod Told
pub mod Reads
pub mod Writes
pub mod Forms
pub mod Gates
pub mod MemGates
