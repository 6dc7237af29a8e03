-- ---- what is promised, in reading order
pub mod Economy
pub mod Cutting
-- ---- what is kept inside
pub mod Limits
pub mod Laws
pub mod Cuts
pub mod StreamLaws
