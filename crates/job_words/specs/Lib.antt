-- ---- what is promised, in reading order
pub mod Words
pub mod Texts
-- ---- what is kept inside
pub mod Lines
