pub mod Passing
pub mod Marks
