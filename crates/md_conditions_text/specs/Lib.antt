pub mod Names
pub mod Kinds
pub mod ConditionFields
pub mod Narrow
pub mod Known
pub mod ConditionsText
pub mod ConditionRows
