pub mod WideFits
pub mod RunCertified
pub mod FoundLaws
