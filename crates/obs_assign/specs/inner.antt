-- What no claim rests on: invariants, records of loops, and what only inner contracts cite.
pub mod Assignment
pub mod Moves
pub mod Pins
pub mod Still
pub mod Kept
pub mod Spare
pub mod Retain
