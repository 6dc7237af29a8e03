-- ---- what is promised, in reading order
pub mod Layouts
pub mod Images
pub mod Pairs
pub mod Names
pub mod Turns
pub mod Paths
pub mod Grids
pub mod Hulls
-- ---- what is kept inside
pub mod Products
pub mod Offsets
pub mod Intervals
pub mod Slants
pub mod PathBounds
pub mod PathLaws
pub mod Places
pub mod Counting
pub mod Repeats
pub mod Points
pub mod Kept
pub mod Segments
pub mod ShapeLists
pub mod Strides
pub mod Walks
