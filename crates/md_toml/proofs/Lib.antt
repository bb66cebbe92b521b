pub mod Each
pub mod EachTable
pub mod Names
pub mod Utf8
pub mod WritingLaws
pub mod PrintLaws
pub mod VersionLaws
