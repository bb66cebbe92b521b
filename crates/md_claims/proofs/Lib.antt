pub mod RayLaws
pub mod SettingClaims
pub mod AuctionPoints
pub mod AuctionCertificates
pub mod FitLaws
pub mod ValueLaws
