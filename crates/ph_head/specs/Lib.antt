pub mod Head
pub mod Reader
pub mod Parts
