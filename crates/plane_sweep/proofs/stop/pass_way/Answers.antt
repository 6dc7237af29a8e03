use Rattle.plane_sweep.proofs.AlikeHalfway.{alike_moved, alike_passes, passed_same, ended_same}
use Rattle.plane_sweep.proofs.WayWith.{settled_way}
use Rattle.plane_sweep.proofs.stop.pass_way.Goals as goal

pub returns-clause-on : goal.returns-clause-on
returns-clause-on g c =
    alike_passes c.args.level.y c.args.end c.args.left.sides c.in_ok-right.right.sides c.settle.result.sides c.args.front.now.lines
    c.pass_lines.new.front.lines c.settle.new.lines
    c.in_ok-right.ensures.on c.settle.ensures.alike c.settle.ensures.after c.settle.ensures.sides

pub returns-clause-runs : goal.returns-clause-runs
returns-clause-runs g c =
    settled_way (λ a b r. g.F.Fn.post c.args.rule.now (a, (b, tt)) r) c.args.level.y c.args.end c.args.left c.in_ok-right.right c.settle.result
    c.args.front.now.lines c.pass_lines.new.front.lines c.settle.new.lines c.args.front.now.ended.items c.pass_lines.new.front.ended.items
    (alike_moved c.args.level.y c.in_ok-right.right.sides c.settle.result.sides c.pass_lines.new.front.lines c.settle.new.lines
    c.settle.ensures.alike c.settle.ensures.after c.settle.ensures.sides)
    c.settle.ensures.after c.settle.ensures.runs c.in_ok-right.ensures.runs

pub returns-clause-passed : goal.returns-clause-passed
returns-clause-passed g c =
    passed_same c.args.level.y c.args.end c.args.front.now.lines.after c.pass_lines.new.front.lines.after c.settle.new.lines.after
    c.settle.ensures.after c.in_ok-right.ensures.passed

pub returns-clause-ended : goal.returns-clause-ended
returns-clause-ended g c =
    ended_same c.args.level.y c.args.end c.args.front.now.lines.after c.in_ok-right.right.sides c.settle.result.sides
    c.pass_lines.new.front.lines.after c.settle.new.lines.after
    c.settle.ensures.sides c.settle.ensures.after c.in_ok-right.ensures.ended

pub returns-clause-settled : goal.returns-clause-settled
returns-clause-settled g c = c.settle.ensures.runs.settled
