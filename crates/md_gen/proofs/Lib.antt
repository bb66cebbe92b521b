pub mod DrawLaws
pub mod TestsPass
pub mod AuctionAccepted
pub mod SettingAccepted
pub mod MadeLaws
