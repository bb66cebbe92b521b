pub mod Draws
pub mod GeneratedAuction
pub mod GeneratedSetting
pub mod Generated
