pub mod Sets
pub mod Sides
pub mod Odds
pub mod Worth
