-- ---- what is promised, in reading order
pub mod Generated
pub mod Streams
