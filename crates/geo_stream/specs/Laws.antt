-- Proofs of the laws of the streams: each is one list, which is no longer than its size, and its size is bounded.
-- Here are lemmas alone, no definition.
pub mod Flattened
pub mod FromSlice
pub mod Joined
pub mod Mapped
pub mod Merged
pub mod Peeked
