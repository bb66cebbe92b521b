pub mod ChordLaws
pub mod PooledTo
pub mod RuleLaws
pub mod Searches
pub mod Lists
pub mod Bounds
pub mod CutLists
pub mod InterimLaws
