pub mod Body
pub mod Fixed
pub mod Names
pub mod Refusal
pub mod Table
