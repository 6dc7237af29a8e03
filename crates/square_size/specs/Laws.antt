-- Proofs of the laws of the streams: each stands for one list, which is no longer than its size, and its size is
-- bounded. Lemmas alone stand here, no definition.
pub mod Growing
