pub mod ShadowLaws
pub mod WrittenShadows
pub mod WrittenAnswers
pub mod AnswerLaws
pub mod ToldShadows
