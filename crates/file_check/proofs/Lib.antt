mod Sorting
mod Passing
mod FaultLemmas
mod Covers
mod Certifying
mod Lengths
mod Answering
mod Classes
pub mod ForCallers
