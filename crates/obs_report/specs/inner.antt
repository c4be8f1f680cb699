-- What no claim rests on: invariants, records of loops, and what only inner contracts cite.
pub mod Lines
pub mod Items
pub mod Printed
pub mod Placements
