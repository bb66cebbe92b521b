pub mod Profiles
pub mod Judged
pub mod Awards
pub mod StandingRecords
pub mod SaleLaws
pub mod UnitDraws
