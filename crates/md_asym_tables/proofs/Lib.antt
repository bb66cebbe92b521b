pub mod NetLaws
pub mod FlowLaws
pub mod WeightLaws
pub mod MechanismLaws
pub mod Necessity
pub mod MassSums
