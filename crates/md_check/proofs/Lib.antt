pub mod VerdictLaws
pub mod AuctionLaws
pub mod OneAuctionVerdict
pub mod OptimalValues
