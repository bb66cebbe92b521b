pub mod ListSums
pub mod Levels
pub mod LeftOut
pub mod Orders
pub mod Verdicts
