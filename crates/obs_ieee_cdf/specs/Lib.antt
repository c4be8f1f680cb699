pub mod Faults
pub mod Fields
pub mod Laws
pub mod Read
pub mod Rows
pub mod Sections
pub mod inner
