-- What no claim rests on: invariants, records of loops, and what only inner contracts cite.
pub mod Adds
pub mod Case
pub mod Flags
pub mod Tables
