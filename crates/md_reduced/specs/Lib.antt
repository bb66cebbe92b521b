pub mod Conditions
pub mod Sides
pub mod ProgramOf
pub mod Names
pub mod Costs
pub mod Points
pub mod Averages
pub mod Mechanisms
