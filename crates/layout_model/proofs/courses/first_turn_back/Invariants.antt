use Rattle.std.proofs.Common.{drop}
use Rattle.layout_model.proofs.CourseLemmas.{Onward}
use Rattle.layout_model.proofs.courses.first_turn_back.Given as goal

abbrev pub invariant-loop-k : goal.invariant-loop-k
invariant-loop-k l = Onward l.fn.points l.previous (drop l.k l.rest) l.heading l.k
