pub mod NameLemmas
pub mod RowLemmas
pub mod ValidLemmas
mod AddLemmas
