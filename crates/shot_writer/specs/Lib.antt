-- ---- what is promised, in reading order
pub mod Writing
-- ---- what is kept inside
pub mod Holding
pub mod WritingLaw
pub mod WriterView
pub mod Counting
