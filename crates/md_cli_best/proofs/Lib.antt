pub mod Headlines
pub mod AuctionHeadlines
pub mod Fairest
pub mod Found
pub mod RequiredBounds
pub mod Required
pub mod Drilled
