pub mod Columns
pub mod Faults
pub mod Laws
pub mod Limits
pub mod Lines
pub mod Names
pub mod Numbers
pub mod inner
