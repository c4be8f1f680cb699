pub mod Printing
pub mod LineLemmas
pub mod Counted
pub mod Listed
pub mod Passed
pub mod Named
pub mod OfPairs
pub mod Slotted
