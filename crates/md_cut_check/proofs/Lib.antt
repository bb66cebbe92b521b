pub mod CutPoints
pub mod CutLaws
pub mod OneCutVerdict
