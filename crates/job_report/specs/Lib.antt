-- ---- what is promised, in reading order
pub mod Endings
pub mod ShotLines
pub mod Lines
pub mod Report
pub mod Pieces
-- ---- what is kept inside
pub mod Codes
