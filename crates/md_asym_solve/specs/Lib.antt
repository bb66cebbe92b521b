pub mod SaleCuts
pub mod Solved
