-- What the crates above may cite: lemmas over plain variables, by topic. Their own modules are this crate's answers.
--
-- Windings, balance and what a rule takes don't depend on the order of edges.
pub use Rattle.scan_line.proofs.Transport.{winding_permuted, balanced_permuted, taken_permuted}
-- The winding of a list of edges, one edge further; what an edge adds at the tiles on its right and on its left.
pub use Rattle.scan_line.proofs.RowWindings.{part, winding_nil, winding_cons, winding_left, part_right, part_left}
-- The edges of a slab have the windings of all in its rows, and are even where all are balanced.
pub use Rattle.scan_line.proofs.Transport.{count_alike, winding_alike, even_alike}
-- The edges of a point list, and the parts of edges in a window.
pub use Rattle.scan_line.proofs.OutlineWinding.{winds_as_outline, winds_not_for_other, outline_is_balanced}
pub use Rattle.scan_line.proofs.ClipWinding.{winds_in_window, stays_balanced}
-- Where the Y and the X of an edge are within reach.
pub use Rattle.scan_line.proofs.Reaches.{x_within, y_within}
-- What a rule answers.
pub use Rattle.scan_line.proofs.RuleLemmas.{answer_says, takes_no_nothing}
