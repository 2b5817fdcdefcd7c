pub mod Requests
pub mod Schedule
