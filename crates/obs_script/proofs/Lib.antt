pub mod CommandLemmas
pub mod HeldLemmas
pub mod LineLemmas
pub mod WordLemmas
