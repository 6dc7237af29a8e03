-- ---- what is kept inside
pub mod Sweeps
pub mod ColumnLaws
pub mod Operands
pub mod RowSums
pub mod Tries
pub mod Looking
pub mod Steps
pub mod Parts
pub mod Cutting
pub mod Waiting
pub mod Dealing
pub mod Sewing
pub mod Standings
