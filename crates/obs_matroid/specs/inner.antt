-- What no claim rests on: invariants, records of loops, and what only inner contracts cite.
pub mod Matroid
pub mod Graphic
pub mod Assignments
pub mod Slots
pub mod Bounds
pub mod Critical
pub mod Closed
pub mod Exchange
pub mod First
pub mod Partners
pub mod Components
pub mod Placement
pub mod Laws
