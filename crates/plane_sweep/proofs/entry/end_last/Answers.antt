use Rattle.std.proofs.Common.{ap}
use Rattle.std.specs.Prelude.{option_map}
use Rattle.plane_sweep.specs.RuleTests.{growing_at}
use Rattle.plane_sweep.proofs.EndLemmas.{last_ends}
use Rattle.plane_sweep.proofs.entry.end_last.Goals as goal

pub returns : goal.returns
returns c =
    last_ends c.args.level.y c.args.waiting.now.items c.end.new.waiting.items (option_map growing_at c.args.last) (growing_at c.in-Some.last)
    (ap (option_map growing_at) c.in-Some.is)
    c.in_ok-end.ensures.shot
