pub mod Programs
pub mod Certificates
pub mod Verdicts
