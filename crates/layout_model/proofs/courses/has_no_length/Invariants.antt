use Rattle.layout_model.proofs.CourseLemmas.{AreSame}
use Rattle.layout_model.proofs.courses.has_no_length.Given as goal

-- the points so far equal the first
abbrev pub invariant-loop-point : goal.invariant-loop-point
invariant-loop-point l = AreSame l.first l.rest l.point-index
