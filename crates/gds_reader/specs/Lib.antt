-- ---- what is promised, in reading order
pub mod Reading
pub mod Grammar
pub mod Meaning
pub mod Values
pub mod Past
-- ---- what is kept inside
pub mod Steps
pub mod Elements
pub mod Names
pub mod Refused
pub mod Steppings
pub mod Readers
pub mod Brushes
