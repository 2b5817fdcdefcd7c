pub mod Words
pub mod Bodies
pub mod Commands
