-- ---- what is kept inside
pub mod Shown
