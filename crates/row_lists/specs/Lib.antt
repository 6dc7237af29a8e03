-- ---- what is kept inside
pub mod Weights
pub mod RowLists
pub mod RowRuns
pub mod RowListLaws
pub mod Halfway
pub mod Events
