pub mod OwnNumbers
pub mod TightCuts
pub mod ReportOf
pub mod Records
