pub mod Pairs
pub mod Readings
pub mod Search
pub mod Way
