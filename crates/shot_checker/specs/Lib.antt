-- ---- what is promised, in reading order
pub mod Verdicts
-- ---- what is kept inside
pub mod Counts
