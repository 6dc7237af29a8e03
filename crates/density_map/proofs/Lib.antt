pub mod Numbers
pub mod WedgeLemmas
pub mod RowLemmas
pub mod ClipLemmas
pub mod PlaceLemmas
pub mod FloorLemmas
pub mod BoxLemmas
pub mod SumLemmas
pub mod LawLemmas
pub mod AddLemmas
mod TestLemmas
pub mod ForCallers
