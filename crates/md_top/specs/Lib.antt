pub mod Reply
pub mod Promises
