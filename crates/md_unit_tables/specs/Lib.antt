pub mod Numbers
pub mod Worth
pub mod Tables
pub mod Mechanisms
pub mod UnitNets
pub mod Ends
