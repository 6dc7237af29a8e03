pub mod ForCallers
mod Cuts
mod SlantLemmas
mod GridLemmas
mod ProductLemmas
mod RectangleLemmas
mod DirectionLemmas
mod CourseLemmas
mod WalkLemmas
mod EndLemmas
mod DrawLemmas
mod AreaLemmas
mod NearLemmas
mod SegmentLemmas
mod CornerLemmas
mod HullLemmas
mod PointLemmas
mod StrideLemmas
mod RulerLemmas
mod PairLemmas
mod SegmentListLemmas
pub mod MovedPaths
mod TurnLemmas
pub mod RepeatLemmas
mod ShapeListLemmas
