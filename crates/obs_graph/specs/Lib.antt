pub mod Joined
pub mod Positions
pub mod Graph
pub mod inner
