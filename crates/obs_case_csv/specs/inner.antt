-- What no claim rests on: invariants, records of loops, and what only inner contracts cite.
pub mod Columns
pub mod Faults
pub mod IsCase
pub mod IsFault
pub mod Laws
pub mod OneTable
pub mod Read
pub mod Records
