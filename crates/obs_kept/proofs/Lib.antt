pub mod OfNetwork
pub mod StandingStill
