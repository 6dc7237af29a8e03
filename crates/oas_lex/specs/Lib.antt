-- ---- what is promised, in reading order
pub mod ShotText
pub mod ShotLaws
pub mod Spelling
pub mod Strings
pub mod Numbers
pub mod Reals
pub mod Deltas
-- ---- what is kept inside
pub mod SpellingLaws
