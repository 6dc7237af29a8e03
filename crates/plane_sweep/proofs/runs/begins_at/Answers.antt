use Rattle.plane_sweep.proofs.FoldLemmas.{begins_more}
use Rattle.plane_sweep.proofs.runs.begins_at.Goals as goal

pub loop-line-preserved : goal.loop-line-preserved
loop-line-preserved g c test is =
    begins_more test c.in-Some.line.now c.in-Some.rest.now c.loop-line.left.now c.in-Some.ensures.cases.0 c.loop-line.inside c.loop-line.found _ _
    c.takes-taken.result
    (c.takes-taken.ensures test is) c.begun_at-found.ensures (c.loop-line.invariant test is)
