pub mod NextRecord
pub mod Reading
pub mod RecordTexts
