use Rattle.std.proofs.Common.{drop}
use Rattle.layout_model.proofs.SlantLemmas.{Passed}
use Rattle.layout_model.proofs.shapes.first_slant.Given as goal

abbrev pub invariant-loop-k : goal.invariant-loop-k
invariant-loop-k l = Passed l.fn.points l.previous (drop l.k l.rest) l.k
