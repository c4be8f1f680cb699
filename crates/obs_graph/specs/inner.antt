-- What no claim rests on: invariants, records of loops, and what only inner contracts cite.
pub mod Joined
pub mod Positions
pub mod Placing
pub mod Graph
pub mod Search
