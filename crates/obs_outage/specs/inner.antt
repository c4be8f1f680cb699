-- What no claim rests on: invariants, records of loops, and what only inner contracts cite.
pub mod Outages
pub mod Lending
pub mod Feeds
pub mod Spared
pub mod Sparing
pub mod Costly
pub mod Alone
pub mod Settled
pub mod AtVertices
pub mod Without
pub mod Told
pub mod Ready
pub mod Lost
