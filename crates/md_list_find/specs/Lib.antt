pub mod Listing
pub mod Places
pub mod GroupSums
pub mod Levels
