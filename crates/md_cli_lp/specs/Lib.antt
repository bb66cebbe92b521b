pub mod ProgramTexts
pub mod ReducedTexts
pub mod Listing
pub mod Replaying
