pub mod OneOutcome
pub mod Choices
pub mod FixedTerms
pub mod OwnProgram
pub mod PointLaws
pub mod Sizes
pub mod Laws
