pub mod Sets
pub mod Draws
pub mod Setting
pub mod Odds
