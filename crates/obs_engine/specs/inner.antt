-- What no claim rests on: invariants, records of loops, and what only inner contracts cite.
pub mod Forms
pub mod Laws
pub mod Lines
pub mod Replies
pub mod Runs
pub mod Sessions
pub mod Stays
pub mod Summaries
pub mod Tasks
pub mod Trials
pub mod Turns
