use Rattle.plane_sweep.proofs.EnterSteps.{apart_as}
use Rattle.plane_sweep.proofs.entry.enter.Goals as goal

pub returns-in-Alike-clause-enters : goal.returns-in-Alike-clause-enters
returns-in-Alike-clause-enters c = rw c.in-Alike.is c.enter_alike.ensures.enters

pub returns-in-Apart-clause-enters : goal.returns-in-Apart-clause-enters
returns-in-Apart-clause-enters c =
    apart_as c.args.level.y c.args.inside c.in-Apart.apart c.args.below c.args.above c.args.lines.now.before c.enter_apart.new.lines.before
    c.args.waiting.now.items c.args.runs c.enter_apart.result c.in-Apart.is c.enter_apart.ensures.enters
