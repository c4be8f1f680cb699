pub mod Edits
pub mod Lines
pub mod Bounds
pub mod inner
