-- ---- what is promised, in reading order
pub mod FileLaws
pub mod TreeLaws
