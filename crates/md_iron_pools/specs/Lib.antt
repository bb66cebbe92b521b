pub mod Pooling
pub mod Odds
pub mod ByRule
