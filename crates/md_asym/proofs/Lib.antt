pub mod GainLaws
pub mod TableSizes
pub mod SaleClaims
pub mod ReadingSteps
pub mod SaleRead
pub mod SaleWritten
pub mod WrittenAnswers
