-- ---- what is promised, in reading order
pub mod Trapezoids
pub mod Reach
pub mod Lines
pub mod JoinedLists
pub mod Halves
pub mod Tiles
pub mod Rows
pub mod Nearness
pub mod Winding
pub mod Windows
pub mod Outlines
pub mod Quads
pub mod Sizes
-- ---- what is kept inside
pub mod Sides
pub mod RowLaws
pub mod Ways
pub mod Edges
pub mod Meetings
pub mod LineLaws
pub mod EdgeLaws
