pub mod Fixed
pub mod Tour
pub mod Path
