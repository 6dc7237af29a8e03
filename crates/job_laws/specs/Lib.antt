-- ---- what is promised, in reading order
pub mod AreaLaws
pub mod BandLaws
