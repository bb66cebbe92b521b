pub mod Ironing
pub mod UnitTexts
pub mod IroningUnits
pub mod Selling
pub mod SellingUnits
pub mod ThresholdTexts
pub mod Thresholding
