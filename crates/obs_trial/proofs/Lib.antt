pub mod CountLemmas
pub mod NameLemmas
pub mod RowLemmas
pub mod ValidLemmas
