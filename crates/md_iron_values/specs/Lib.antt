pub mod Weights
pub mod Pools
pub mod VirtualValues
pub mod Odds
pub mod Cuts
pub mod Gaps
