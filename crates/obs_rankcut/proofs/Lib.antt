pub mod Marked
pub mod Ranked
pub mod Passing
pub mod Costs
