use Rattle.std.proofs.Common.{sym}
use Rattle.plane_sweep.proofs.StopLemmas.{first_within}
use Rattle.plane_sweep.proofs.point.take_through.Goals as goal

pub passes-requires-clause-x : goal.passes-requires-clause-x
passes-requires-clause-x c =
    first_within c.args.point.y c.args.lines.now.after c.loop-line.taken.items c.loop-line.lines.after c.in-Some.line
    c.requires.within c.loop-line.invariant.split (sym c.in-Some.ensures)
