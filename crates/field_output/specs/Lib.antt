-- ---- what is promised, in reading order
pub mod Stripes
-- ---- what is kept inside
pub mod Meeting
pub mod Chains
pub mod Lists
pub mod StreamLaws
