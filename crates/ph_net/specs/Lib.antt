pub mod Forms
pub mod Dialers
