-- ---- what is kept inside
pub mod ActiveLists
pub mod Points
pub mod Leaning
pub mod LeaningLaws
pub mod Neighbours
pub mod Chunked
