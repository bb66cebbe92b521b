pub mod Divisors
pub mod FirstFailure
pub mod LexOrder
pub mod Lists
pub mod Products
pub mod Sizes
pub mod Sums
pub mod Sets
