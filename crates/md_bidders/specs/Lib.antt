pub mod Products
pub mod Assignments
pub mod Setting
pub mod AsGroups
