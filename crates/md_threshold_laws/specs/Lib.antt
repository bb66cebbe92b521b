pub mod Rule
pub mod Lotteries
pub mod Mechanisms
pub mod Interim
pub mod ClosedOdds
