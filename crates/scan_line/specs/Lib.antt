-- ---- what is kept inside
pub mod Rules
pub mod Stops
pub mod Runs
pub mod Actives
pub mod Sweeps
pub mod OutlineEdges
pub mod OutlineLaws
pub mod ClippedEdges
pub mod ClippedLaws
pub mod Scans
pub mod Turns
pub mod Windings
pub mod Starts
pub mod Buckets
pub mod OpenRuns
pub mod OutlineStreams
pub mod ClippedStreams
