pub mod Combination
pub mod Halves
pub mod LeastRows
pub mod Reduce
