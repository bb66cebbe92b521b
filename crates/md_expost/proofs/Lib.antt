pub mod Shares
pub mod Winners
pub mod MechanismLaws
pub mod MassLaws
pub mod CountNetLaws
pub mod FlowLaws
pub mod KeptLaws
pub mod NetLaws
