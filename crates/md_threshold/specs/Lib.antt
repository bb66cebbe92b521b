pub mod Kinds
pub mod Awards
pub mod Interims
pub mod Thresholds
pub mod Prices
pub mod PriceLists
