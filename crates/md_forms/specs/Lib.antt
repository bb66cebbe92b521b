pub mod Forms
pub mod ProgramOf
pub mod Built
pub mod Terms
