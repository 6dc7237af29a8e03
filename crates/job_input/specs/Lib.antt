-- ---- what is promised, in reading order
pub mod Accepted
pub mod Refused
-- ---- what is kept inside
pub mod Clauses
pub mod Parts
