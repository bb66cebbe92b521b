pub mod Odds
pub mod Worth
pub mod Averages
pub mod Points
pub mod Mechanisms
