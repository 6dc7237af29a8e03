use Rattle.std.proofs.Common.{drop}
use Rattle.layout_model.proofs.CourseLemmas.{Straight}
use Rattle.layout_model.proofs.courses.first_diagonal.Given as goal

abbrev pub invariant-loop-k : goal.invariant-loop-k
invariant-loop-k l = Straight l.fn.points l.previous (drop l.k l.rest) l.k
