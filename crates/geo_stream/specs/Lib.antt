-- ---- what is promised, in reading order
pub mod Flattened
-- ---- what is kept inside
pub mod Mapped
pub mod Merged
pub mod Lending
pub mod Refusals
pub mod Stream
pub mod Joined
pub mod Laws
pub mod Peeked
