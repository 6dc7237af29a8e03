use Rattle.std.specs.Prelude.{option_map}
use Rattle.plane_sweep.specs.RuleTests.{growing_at}
use Rattle.plane_sweep.proofs.EndLemmas.{one_so_far}
use Rattle.plane_sweep.proofs.entry.end_old.Goals as goal

pub loop-line-preserved : goal.loop-line-preserved
loop-line-preserved c =
    one_so_far c.args.level.y c.args.waiting.now.items c.args.lines.now c.loop-line.left.now c.in-Some.rest.now c.in-Some.line.now
    c.loop-line.waiting.items c.end_before.new.waiting.items
    (option_map growing_at c.loop-line.last) (option_map growing_at c.in_ok-last.last) c.in-Some.ensures.cases.0 c.loop-line.invariant c.in_ok-last.ensures
