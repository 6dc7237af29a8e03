pub mod ForCallers
mod FramingLemmas
mod HeadLemmas
mod NumberLemmas
mod RealLemmas
mod RecordLists
