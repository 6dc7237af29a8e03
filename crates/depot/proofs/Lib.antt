pub mod ForCallers
mod Reading
mod FilingLemmas
mod StoreLemmas
pub mod SaidSoFar
