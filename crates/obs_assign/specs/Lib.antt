pub mod Assignment
pub mod inner
