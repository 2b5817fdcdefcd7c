pub mod Create
pub mod Entry
pub mod Found
pub mod Laws
pub mod RefundFee
pub mod Reverse
