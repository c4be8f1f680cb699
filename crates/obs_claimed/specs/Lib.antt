pub mod Claimed
pub mod inner
