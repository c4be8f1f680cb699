pub mod Stations
pub mod inner
