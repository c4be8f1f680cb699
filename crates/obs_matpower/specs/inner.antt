-- What no claim rests on: invariants, records of loops, and what only inner contracts cite.
pub mod Case
pub mod Ends
pub mod Faults
pub mod IsFault
pub mod Laws
pub mod Left
pub mod Read
pub mod Reading
pub mod Rows
pub mod Table
