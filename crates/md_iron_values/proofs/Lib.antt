pub mod WeightLaws
pub mod PoolLaws
pub mod PayLaws
pub mod GapLaws
pub mod AuctionLaws
pub mod CutLaws
pub mod SideLaws
pub mod WholeOdds
