-- ---- what is promised, in reading order
pub mod Counts
pub mod Content
-- ---- what is kept inside
pub mod Counting
pub mod Printing
pub mod Doing
pub mod Refusals
pub mod StoreView
pub mod Filing
pub mod Memory
pub mod Sure
pub mod Shelves
pub mod Targets
pub mod Tallies
pub mod Keeping
pub mod System
