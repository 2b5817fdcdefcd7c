pub mod Answers
pub mod Closing
pub mod Due
pub mod Finding
pub mod Laws
pub mod Opening
