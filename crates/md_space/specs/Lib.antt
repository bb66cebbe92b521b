pub mod AllProfiles
pub mod ByType
pub mod Profiles
pub mod Sizes
pub mod Strides
