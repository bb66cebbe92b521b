mod Comparison
mod Decimals
mod Reduction
pub mod Texts
