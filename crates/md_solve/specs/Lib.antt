pub mod Answered
pub mod Bounds
pub mod Certifies
pub mod Solved
pub mod AuctionSolved
