pub mod Entry
pub mod Finding
pub mod Laws
pub mod Parts
pub mod Refunds
