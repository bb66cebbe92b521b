pub mod Certificates
pub mod Laws
pub mod Rays
pub mod AuctionCertificates
pub mod AuctionClaims
pub mod Values
