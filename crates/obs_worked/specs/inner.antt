-- What no claim rests on: invariants, records of loops, and what only inner contracts cite.
pub mod Rows
pub mod Cases
pub mod Networks
pub mod Answers
pub mod Reports
pub mod Studies
pub mod Sessions
pub mod Certificates
pub mod Faults
pub mod Runs
