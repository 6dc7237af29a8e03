-- ---- what is promised, in reading order
pub mod Reading
pub mod Refusals
pub mod Fields
-- ---- what is kept inside
pub mod Near
pub mod Laws
pub mod Alike
pub mod Spelled
