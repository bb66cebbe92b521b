pub mod Saying
pub mod Texts
pub mod Refused
pub mod Reading
pub mod Works
