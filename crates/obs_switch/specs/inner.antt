-- What no claim rests on: invariants, records of loops, and what only inner contracts cite.
pub mod Buses
pub mod Labels
pub mod Groups
pub mod Held
