pub mod Blocks
pub mod Calls
pub mod Laws
pub mod Stays
pub mod inner
