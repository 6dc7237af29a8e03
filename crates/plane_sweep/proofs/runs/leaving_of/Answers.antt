use Rattle.std.specs.Prelude.{option_map}
use Rattle.plane_sweep.specs.RuleTests.{growing_at}
use Rattle.plane_sweep.proofs.FoldLemmas.{leaving_more}
use Rattle.plane_sweep.proofs.runs.leaving_of.Goals as goal

pub loop-line-preserved : goal.loop-line-preserved
loop-line-preserved g c test is =
    leaving_more test c.in-Some.line.now c.in-Some.rest.now c.loop-line.left.now c.in-Some.ensures.cases.0
    (option_map growing_at c.loop-line.found) _ _ c.takes.result
    (c.takes.ensures test is) c.left_open-found.ensures (c.loop-line.invariant test is)
