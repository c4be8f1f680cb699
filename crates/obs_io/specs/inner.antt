-- What no claim rests on: invariants, records of loops, and what only inner contracts cite.
pub mod Causes
pub mod Bytes
pub mod Laws
pub mod Limits
pub mod Memory
pub mod Whole
