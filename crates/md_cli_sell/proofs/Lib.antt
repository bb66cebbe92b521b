pub mod Closed
pub mod Sold
pub mod Joined
pub mod OneUnit
pub mod UnitsTold
pub mod UnitsSold
pub mod WinnersPay
pub mod ClosedSales
