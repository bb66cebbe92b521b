pub mod InOrder
pub mod Ranks
pub mod Walks
pub mod TypeSums
