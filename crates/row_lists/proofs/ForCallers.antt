-- What the crates above may cite: lemmas over plain variables, by topic. Their own modules are this crate's answers.
--
-- Weights: edge by edge, in two rows that the same edges span, and by events.
pub use Rattle.row_lists.proofs.Steps.{share, weight_nil, weight_cons, winding_step, same_weight, no_weight}
pub use Rattle.row_lists.proofs.EventLemmas.{amount_permuted, weights_by_events, before_both}
-- Changes along a list, and along two that follow one another.
pub use Rattle.row_lists.proofs.Alike.{no_change, left_of_all, change_step}
pub use Rattle.row_lists.proofs.HalfwayLemmas.{change_left, change_right, last_append}
-- Row lists: their windings, until when they stay, and that a row has one.
pub use Rattle.row_lists.proofs.Windings.{gives_windings, still_ascend, stays_until_stop, none_in_empty_row}
pub use Rattle.row_lists.proofs.Unique.{same_windings, one_row_list}
-- The runs read off a list.
pub use Rattle.row_lists.proofs.RunLemmas.{begin_right, end_right, after_end, stand_apart, runs_for_rule}
-- From the row below a stop to the row above it.
pub use Rattle.row_lists.proofs.HalfwayLemmas.{above_order, below_order, begins_halfway, goes_on_halfway, passes_point, ends_halfway}
