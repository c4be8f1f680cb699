pub mod Touches
pub mod Held
pub mod Spanned
pub mod Assignments
pub mod Lost
pub mod Costs
pub mod inner
