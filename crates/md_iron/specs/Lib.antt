pub mod Multiples
pub mod Shares
pub mod RowMultipliers
pub mod ShortBounds
pub mod ClosedForms
pub mod UnitForms
pub mod Ironings
