-- What no claim rests on: invariants, records of loops, and what only inner contracts cite.
pub mod Firsts
pub mod IslandWork
pub mod Rounds
pub mod Left
pub mod GivenUp
