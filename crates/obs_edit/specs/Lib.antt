pub mod Answers
pub mod Planned
pub mod Placements
pub mod Sessions
pub mod Laws
pub mod inner
