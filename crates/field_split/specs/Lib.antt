-- ---- what is promised, in reading order
pub mod Looks
pub mod Laws
pub mod Fields
-- ---- what is kept inside
pub mod Cutting
pub mod Pieces
pub mod StreamLaws
