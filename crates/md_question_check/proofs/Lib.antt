pub mod SameVerdict
pub mod VerdictLaws
pub mod OneVerdict
