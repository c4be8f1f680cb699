-- What no claim rests on: invariants, records of loops, and what only inner contracts cite.
pub mod Closed
pub mod Found
pub mod Lengthened
pub mod Noting
pub mod Setting
pub mod Trail
pub mod Searching
pub mod Ordered
pub mod Classes
pub mod Laws
pub mod Blank
pub mod Stars
pub mod Longest
