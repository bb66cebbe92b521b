pub mod Cuts
pub mod Examples
pub mod Orders
