pub mod OddsGiven
pub mod Alike
pub mod NumberLaws
pub mod ValueLaws
pub mod TellingLaws
