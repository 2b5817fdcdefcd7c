pub mod FeeRefunds
pub mod Reversals
