-- What no claim rests on: invariants, records of loops, and what only inner contracts cite.
pub mod Switched
pub mod Components
pub mod Network
pub mod Located
pub mod Parted
pub mod Sides
pub mod Bridges
pub mod Kept
pub mod Plain
pub mod Edited
pub mod Standing
pub mod Following
