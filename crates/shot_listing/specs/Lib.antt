-- ---- what is promised, in reading order
pub mod Listing
