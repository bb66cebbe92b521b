pub mod BasisSteps
