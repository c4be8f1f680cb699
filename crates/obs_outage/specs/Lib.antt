pub mod Outages
pub mod inner
