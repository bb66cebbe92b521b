pub mod Counts
pub mod Kept
pub mod Ranks
pub mod Ways
pub mod Weights
