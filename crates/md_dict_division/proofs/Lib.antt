mod Divisors
pub mod Guessing
pub mod OddParts
pub mod Reading
