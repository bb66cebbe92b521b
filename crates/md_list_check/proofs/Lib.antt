pub mod FractionTests
pub mod LevelLaws
pub mod DividedLaws
pub mod LeftOutLaws
pub mod OrderLaws
pub mod VerdictLaws
pub mod CheckLaws
pub mod SignTests
