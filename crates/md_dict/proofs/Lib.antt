mod Building
mod Change
mod FaceRow
mod LeastRows
mod FirstRows
mod NewNumbers
mod OldRows
mod Parts
mod Readers
mod StepDivisor
pub mod Values
pub mod Writing
pub mod Cancelling
pub mod Exchange
pub mod Exchanged
pub mod FirstLaws
pub mod RawPivot
pub mod RowLaws
pub mod RowSteps
pub mod Uniqueness
mod NewRows
mod LeastMultiples
mod Filling
mod RowNumbers
mod Divided
mod NewTable
mod Restoring
mod Tables
mod TurningBack
mod ShortProducts
