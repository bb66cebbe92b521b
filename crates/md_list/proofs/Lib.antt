pub mod PayLaws
pub mod PriceLaws
pub mod CountLaws
pub mod PlaceLaws
pub mod AmountLaws
pub mod AverageLaws
pub mod MechanismLaws
pub mod PromiseLaws
