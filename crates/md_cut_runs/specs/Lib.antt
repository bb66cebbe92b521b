pub mod Cutting
pub mod Worst
pub mod CutRuns
pub mod Turns
