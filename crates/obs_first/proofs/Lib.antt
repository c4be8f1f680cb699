pub mod Fronts
pub mod Frozen
pub mod Taking
pub mod Deciding
pub mod Aside
pub mod Changed
pub mod Counting
pub mod Swapping
pub mod Listed
pub mod Lawful
mod Beside
pub mod Going
mod Cutting
mod Backwards
