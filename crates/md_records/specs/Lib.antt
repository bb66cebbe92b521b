pub mod Text
pub mod Left
pub mod Written
pub mod Numbers
