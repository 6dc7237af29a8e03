-- ---- what is kept inside
pub mod Ends
