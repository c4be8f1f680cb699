pub mod Instance
pub mod Touched
pub mod Assigned
pub mod Lost
pub mod Live
