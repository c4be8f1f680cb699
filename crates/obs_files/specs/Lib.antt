pub mod Codes
pub mod Files
pub mod Laws
pub mod Limits
pub mod Outside
pub mod Words
pub mod inner
