pub mod PairLaws
pub mod RowRecords
