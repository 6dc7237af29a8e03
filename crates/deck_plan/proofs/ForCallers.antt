-- What a crate that goes through the bands of a deck may cite.
pub use Rattle.deck_plan.proofs.BandNumbers.{multiples, next_bottom, bottom_is, rem_low}
-- What goes on in what, and joined lists of rows that lie upon each other.
pub use Rattle.deck_plan.proofs.StackLemmas.{GoesOn, goes_is, goes_by}
pub use Rattle.deck_plan.proofs.StackLemmas.{stacked_shots, stacked_joined, stacked_count, ended_below}
