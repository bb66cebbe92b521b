pub mod OneProgram
pub mod CutLists
pub mod SingleCuts
pub mod OneCutRun
pub mod Turning
