pub mod PointLaws
pub mod TermLaws
pub mod BuiltLaws
pub mod OneProgram
