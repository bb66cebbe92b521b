pub mod Forms
pub mod Commands
pub mod Words
pub mod Orders
