pub mod Balances
pub mod Batches
pub mod Names
pub mod Rows
pub mod Views
pub mod Weights
