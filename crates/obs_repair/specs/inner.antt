-- What no claim rests on: invariants, records of loops, and what only inner contracts cite.
pub mod Kept
pub mod Edits
pub mod Repairing
pub mod Parts
pub mod Bounds
