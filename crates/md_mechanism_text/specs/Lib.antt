pub mod Proposals
pub mod MechanismText
