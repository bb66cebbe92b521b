pub mod AuctionCuts
