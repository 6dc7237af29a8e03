-- What the crates above may cite: lemmas over plain variables, by topic. Their own modules are this crate's answers.
--
-- Stripe lists: there is one, and only one; how many pieces it has, and what holds of each.
pub use Rattle.field_split.proofs.StripeLemmas.{stripe_list_is, one_stripe_list, pieces_are_shots, pieces_fit, pieces_in_fields}
pub use Rattle.field_split.proofs.FewLemmas.{pieces_few}
-- The tiles of the pieces of one stripe, and of all.
pub use Rattle.field_split.proofs.TileLemmas.{stripe_counted, stripe_none, all_counted}
-- Stretches of numbers.
pub use Rattle.field_split.proofs.Numbers.{multiples, fewer, next_start, stretch_of, same_stretch}
