-- ---- what is promised, in reading order
pub mod Frames
pub mod Mirrors
-- ---- what is kept inside
pub mod MirrorLaws
pub mod Images
pub mod Laws
