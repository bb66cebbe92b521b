pub mod Insertions
pub mod Listings
pub mod Searches
pub mod SameSums
pub mod PoolLists
pub mod Weighed
pub mod Found
pub mod LevelLaws
