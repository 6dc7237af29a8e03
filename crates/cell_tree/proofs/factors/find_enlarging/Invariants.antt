use Rattle.std.proofs.Common.{ℕ, ◌<◌}
use Rattle.cell_tree.specs.Factors.{LeadsBeyond}
use Rattle.cell_tree.specs.declared.factors.Far.{Far}
use Rattle.cell_tree.proofs.factors.find_enlarging.Given as goal

abbrev pub invariant-loop-k : goal.invariant-loop-k
invariant-loop-k l = (j : ℕ) (far : Far) → j < l.k → LeadsBeyond l.placements l.targets l.farthest l.factor j far → ⊥
