pub mod FeeRefundLemmas
pub mod ReversalLemmas
pub mod RoomLemmas
