mod TakingLemmas
mod RowsLemmas
mod LoneLemmas
mod AscentLemmas
mod ClimbLemmas
