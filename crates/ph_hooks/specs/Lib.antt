pub mod Due
pub mod State
