pub mod Shapes
pub mod Records
pub mod Kept
pub mod Laws
