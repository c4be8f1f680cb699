-- What no claim rests on: invariants, records of loops, and what only inner contracts cite.
pub mod Partners
pub mod PairWork
pub mod Settled
pub mod Split
pub mod Moved
