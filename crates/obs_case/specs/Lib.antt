pub mod Adds
pub mod Flags
pub mod Items
pub mod Tables
pub mod inner
