pub mod Limits
pub mod WholeText
