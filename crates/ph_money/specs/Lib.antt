pub mod Currencies
pub mod Fees
pub mod Laws
