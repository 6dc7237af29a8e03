-- ---- what is promised, in reading order
pub mod Windows
pub mod Frames
-- ---- what is kept inside
pub mod Counts
pub mod Rows
pub mod Laws
pub mod Wedges
