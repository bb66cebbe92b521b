pub mod Verdicts
pub mod UnitClaims
pub mod AuctionVerdicts
pub mod FileVerdicts
pub mod AuctionOptima
