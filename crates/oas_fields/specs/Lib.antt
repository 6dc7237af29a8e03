-- ---- what is promised, in reading order
pub mod Values
pub mod Writes
-- ---- what is kept inside
pub mod Steps
