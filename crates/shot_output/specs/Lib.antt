-- ---- what is promised, in reading order
pub mod Files
pub mod ShotLists
-- ---- what is kept inside
pub mod Laws
pub mod Bands
