pub mod CutLemmas
pub mod Sorting
pub mod PartLemmas
pub mod GrowingLemmas
pub mod StripLemmas
pub mod RowLemmas
pub mod ForCallers
