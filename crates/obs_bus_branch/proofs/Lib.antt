pub mod NumberLemmas
pub mod RowsRead
pub mod SearchLemmas
pub mod ValidLemmas
