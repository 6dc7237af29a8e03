-- ---- what is promised, in reading order
pub mod Repetitions
pub mod Rules
pub mod Plane
pub mod Figures
pub mod Outlines
pub mod PointLists
-- ---- what is kept inside
pub mod Short
pub mod Sharing
pub mod Moves
pub mod Ways
pub mod Sketches
pub mod Trails
pub mod Lattices
pub mod Vertices
pub mod Brushes
pub mod PathLists
