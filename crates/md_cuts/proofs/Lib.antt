pub mod AuctionPrograms
pub mod AuctionEnds
