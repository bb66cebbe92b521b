pub mod CountLaws
pub mod ChanceSizes
pub mod ExpectedSizes
pub mod ShareLaws
pub mod PriceLaws
pub mod PriceListLaws
pub mod ThresholdLaws
