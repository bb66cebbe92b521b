pub mod VerdictRows
pub mod DetermRows
pub mod CheckedTexts
pub mod AuditedRows
