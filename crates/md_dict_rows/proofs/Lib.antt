mod CommonDivisors
mod HalfSizes
pub mod LeastRows
mod Lowering
pub mod Quotients
pub mod Reducing
