pub mod PlaceLaws
pub mod Members
pub mod Counts
pub mod Sizes
pub mod Slots
pub mod BidLaws
pub mod Winners
