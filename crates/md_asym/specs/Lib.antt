pub mod Gains
pub mod AnswerTo
pub mod SaleRows
pub mod SaleReading
pub mod SaleText
pub mod SaleVerdicts
