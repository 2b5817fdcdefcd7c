pub mod Answers
pub mod Listens
pub mod Calls
