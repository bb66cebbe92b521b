pub mod AffineLaws
pub mod Duality
pub mod Fractions
mod Rows
pub mod SameCertificates
