use Rattle.std.proofs.Common.{◌≡◌, length, vec_capacity}
use Rattle.scan_line.proofs.FillLemmas.{Filling}
use Rattle.scan_line.proofs.filling.fill.Given as goal

abbrev pub invariant-loop-edge : goal.invariant-loop-edge
invariant-loop-edge g l = record {
  filling : Filling (λ a b answer. goal.F-post g l.rule a b answer) l.edges l.left l.windings l.inside l.runs.items (vec_capacity l.runs);
  room : vec_capacity l.runs ≡ vec_capacity l.fn.runs;
}

abbrev pub decreases-loop-edge : goal.decreases-loop-edge
decreases-loop-edge g l = length l.left
