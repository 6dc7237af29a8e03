-- ---- what is promised, in reading order
pub mod Operations
-- ---- what is kept inside
pub mod Lone
pub mod Monotone
