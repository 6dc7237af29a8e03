-- ---- what is promised, in reading order
pub mod Tables
pub mod Saying
pub mod Texts
-- ---- what is kept inside
pub mod Laws
pub mod Rows
