pub mod Interims
pub mod CutClaims
