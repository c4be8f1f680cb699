mod BareLemmas
pub mod ByteLemmas
pub mod DecimalLemmas
pub mod LineLaws
pub mod LineLemmas
pub mod NumberLemmas
