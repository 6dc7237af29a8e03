-- ---- what is promised, in reading order
pub mod Records
pub mod Faults
pub mod Rows
pub mod Values
pub mod Lists
pub mod Repetitions
pub mod Taken
-- ---- what is kept inside
pub mod Decoded
pub mod Laws
pub mod Plain
pub mod Parts
pub mod Shapes
