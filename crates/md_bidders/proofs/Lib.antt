pub mod ProductLaws
pub mod BidderLaws
pub mod AssignmentLaws
pub mod SettingLaws
pub mod GroupsAccepted
