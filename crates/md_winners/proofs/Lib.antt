pub mod SetLaws
pub mod Stretches
pub mod DrawLaws
pub mod SettingLaws
pub mod UnitSales
