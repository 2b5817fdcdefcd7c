pub mod Absolute
pub mod Address
