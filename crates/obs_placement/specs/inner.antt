-- What no claim rests on: invariants, records of loops, and what only inner contracts cite.
pub mod Limits
pub mod Order
pub mod Taking
pub mod Offer
pub mod Counting
pub mod Holding
pub mod Layers
pub mod Placed
pub mod Choosing
pub mod Laws
pub mod Shown
