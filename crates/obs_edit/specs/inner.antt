-- What no claim rests on: invariants, records of loops, and what only inner contracts cite.
pub mod Edits
pub mod Lines
pub mod Planned
pub mod Sessions
pub mod Lending
