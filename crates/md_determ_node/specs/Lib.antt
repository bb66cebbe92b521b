pub mod Deterministic
pub mod NodeProgram
pub mod Law
