pub mod NameLaws
pub mod Joined
pub mod SettingNames
pub mod NarrowLaws
pub mod FieldLaws
pub mod LoopLaws
pub mod WrittenConditions
