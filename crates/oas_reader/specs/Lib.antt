-- ---- what is promised, in reading order
pub mod Reading
pub mod Items
pub mod Names
pub mod Meaning
pub mod Order
pub mod Undefined
pub mod Rules
pub mod Reals
-- ---- what is kept inside
pub mod Bodies
pub mod Kept
pub mod Drawn
pub mod Cells
pub mod Places
pub mod Naming
pub mod Finished
pub mod Readers
pub mod Files
pub mod Placed
pub mod Taking
pub mod Plain
pub mod Behind
pub mod Geometry
