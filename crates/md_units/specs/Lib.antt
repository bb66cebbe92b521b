pub mod Mechanisms
pub mod UnitCuts
pub mod Solved
