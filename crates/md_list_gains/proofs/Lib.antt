pub mod Shorts
pub mod Crosswise
pub mod Differences
pub mod GroupSizes
pub mod GainSteps
pub mod Gathered
