pub mod Carried
pub mod FollowedLaws
pub mod OneReplay
pub mod PivotLists
pub mod RecordLaws
pub mod StandingLaws
pub mod ToldLaws
