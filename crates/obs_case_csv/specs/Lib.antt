pub mod Faults
pub mod Fields
pub mod IsCase
pub mod Read
pub mod Rows
pub mod inner
