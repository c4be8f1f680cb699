pub mod Buses
pub mod Rows
pub mod inner
