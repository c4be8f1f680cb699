-- What no claim rests on: invariants, records of loops, and what only inner contracts cite.
pub mod Stations
pub mod Held
pub mod Lending
pub mod Going
pub mod Rounds
