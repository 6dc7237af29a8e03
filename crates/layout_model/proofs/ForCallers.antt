-- What crates above may cite.
--
-- The factor and the quarter turns of a placement, by the real of a file that says them.
pub use Rattle.layout_model.proofs.TurnLemmas.{IsOneReal, factor_bounds, turns_few, factor_some, factor_none, turns_some, turns_none}
-- The segments of a path move with its points.
pub use Rattle.layout_model.proofs.MovedPaths.{path_there, drawable_there, segments_near, path_outlines}
-- Shapes that are given again and again: each copy has the same ones, and what they sum up to.
pub use Rattle.layout_model.proofs.RepeatLemmas.{copied, sum_copied}
