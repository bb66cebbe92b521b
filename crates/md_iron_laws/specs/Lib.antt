pub mod Ironed
pub mod Rows
pub mod Multipliers
pub mod PoolOdds
pub mod Closed
pub mod RowsIn
pub mod Undivided
