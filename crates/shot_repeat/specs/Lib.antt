-- ---- what is promised, in reading order
pub mod Packed
pub mod Packing
pub mod Records
pub mod Values
pub mod Refusals
-- ---- what is kept inside
pub mod Packer
pub mod Laws
pub mod PackingLaws
pub mod Modal
pub mod Giving
pub mod Progress
pub mod Numbers
pub mod Asking
