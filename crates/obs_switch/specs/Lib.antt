pub mod Buses
pub mod Groups
pub mod Held
pub mod inner
