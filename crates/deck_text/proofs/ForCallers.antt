-- What crates above may cite: bytes have one deck at most, one first fault at most, and never both, and every deck is
-- sound.
pub use Rattle.deck_text.proofs.Unique.{one_deck, one_fault, never_both}
pub use Rattle.deck_text.proofs.Sounds.{sound}
