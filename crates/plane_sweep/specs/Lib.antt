-- ---- what is promised, in reading order
pub mod Lowest
-- ---- what is kept inside
pub mod SweptLists
pub mod PlaneSweeps
pub mod Sources
pub mod Sweeps
pub mod Settled
pub mod StopSettles
pub mod Stops
pub mod RowSweeps
pub mod PackedEvents
pub mod PackedSpots
pub mod Bundles
pub mod NextStops
pub mod StopRuns
pub mod Points
pub mod States
pub mod RuleTests
pub mod Crossings
pub mod WayRuns
