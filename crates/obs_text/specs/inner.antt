-- What no claim rests on: invariants, records of loops, and what only inner contracts cite.
pub mod Faults
pub mod Laws
pub mod Lines
