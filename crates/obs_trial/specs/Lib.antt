pub mod Draws
pub mod Trial
pub mod inner
