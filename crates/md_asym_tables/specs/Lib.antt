pub mod Odds
pub mod PairNets
pub mod Tables
pub mod Mechanisms
pub mod Ends
pub mod Tested
