pub mod Faults
pub mod Written
pub mod Files
pub mod MemShelf
pub mod CleanShelf
pub mod MemSink
pub mod CleanSink
