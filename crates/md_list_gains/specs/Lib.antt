pub mod Places
pub mod GroupSums
pub mod Surplus
