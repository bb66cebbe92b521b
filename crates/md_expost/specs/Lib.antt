pub mod Masses
pub mod Refusals
pub mod Mechanisms
pub mod Implementing
pub mod WorstSets
pub mod Ends
pub mod CountNets
