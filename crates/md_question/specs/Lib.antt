pub mod Question
pub mod Best
pub mod Findings
pub mod Shown
pub mod Certified
