use Rattle.std.proofs.Common.{rules}
use Rattle.std.proofs.lemmas.List.Sorted.{answers_always}
use Rattle.half_grid.specs.Trapezoids.{Trapezoid}
use Rattle.file_check.proofs.Sorting.{ascend_sorted}
use Rattle.file_check.proofs.front.sort_by_bottom.Goals as goal

pub returns-clause-ascend : goal.returns-clause-ascend
returns-clause-ascend c = ascend_sorted _ (c.sort_unstable_by_key.ensures.sorted (λ (z : Trapezoid). z.y0) (answers_always _ _ _ (λ f a r g h. search rules)))
