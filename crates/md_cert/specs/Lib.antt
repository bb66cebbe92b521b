pub mod Pairs
pub mod Claims
pub mod Certified
pub mod Fault
pub mod Fitting
