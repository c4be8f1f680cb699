pub mod Blocked
pub mod Ended
pub mod Given
pub mod HandleValues
pub mod LooseValues
pub mod Staying
pub mod Taken
pub mod Worded
