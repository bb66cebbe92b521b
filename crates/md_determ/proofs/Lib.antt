pub mod ReadingLaws
pub mod SoundLaws
pub mod OneSearch
pub mod WayLaws
pub mod FixedPairs
pub mod Fits
pub mod Decided
pub mod Answered
