pub mod Pairs
pub mod Names
pub mod Order
pub mod Leaves
pub mod Entries
pub mod Index
pub mod Readers
