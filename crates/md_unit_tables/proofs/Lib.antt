pub mod FurtherUnits
pub mod MassLaws
pub mod NetLaws
pub mod FlowLaws
pub mod WinnerLaws
pub mod MechanismLaws
