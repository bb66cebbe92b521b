pub mod Bits
pub mod Signs
