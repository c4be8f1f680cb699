-- What no claim rests on: invariants, records of loops, and what only inner contracts cite.
pub mod Touches
pub mod Assignments
pub mod Sizes
pub mod Lost
