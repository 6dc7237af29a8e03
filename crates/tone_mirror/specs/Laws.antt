-- Proofs of the laws of the stream of images: it stands for one list, which is no longer than its size, and its size
-- is bounded. Lemmas alone stand here, no definition.
pub mod Images
