pub mod Hmac
pub mod Signatures
pub mod Verdicts
pub mod Laws
