pub mod ForCallers
mod KindLemmas
mod GrammarLemmas
mod PlaceLemmas
mod RealFacts
mod NameLemmas
mod PointLemmas
mod GridLemmas
mod DrawLemmas
mod RunLemmas
mod FaultLemmas
mod TableLemmas
mod BridgeLemmas
mod TakeLemmas
mod StepLemmas
mod CellLemmas
mod ReadLemmas
mod NeitherLemmas
