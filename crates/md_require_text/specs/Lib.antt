pub mod Told
pub mod RequiredText
pub mod RequiredRows
