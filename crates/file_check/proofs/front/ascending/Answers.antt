use Rattle.std.proofs.Common.{ap, ◌∙◌}
use Rattle.half_grid.specs.Trapezoids.{Trapezoid, count_in}
use Rattle.std.proofs.Common.{List}
use Rattle.file_check.proofs.front.ascending.Goals as goal

pub returns-clause-counts : goal.returns-clause-counts
returns-clause-counts c = λ t. c.sort_by_bottom.ensures.counts t ∙ ap (λ (zs : List Trapezoid). count_in zs t) c.in_ok-sorted.ensures
