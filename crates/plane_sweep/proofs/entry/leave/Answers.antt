use Rattle.std.proofs.Common.{◌≡◌, true, false, rules}
use Rattle.std.specs.Prelude.{option_map}
use Rattle.plane_sweep.specs.RuleTests.{growing_at}
use Rattle.plane_sweep.proofs.EndLemmas.{leave_all, leave_but}
use Rattle.plane_sweep.proofs.entry.leave.Goals as goal

pub returns-in_ok-end_last : goal.returns-in_ok-end_last
returns-in_ok-end_last c =
    let no_more : c.args.goes_on ≡ false = search rules in
    leave_all c.args.level.y c.args.waiting.now.items c.end_old.new.waiting.items c.end_last.new.waiting.items c.args.lines.now
    (option_map growing_at c.in_ok-last.last) c.args.goes_on no_more
    c.in_ok-last.ensures c.in_ok-end_last.ensures

pub returns-else-not-goes_on : goal.returns-else-not-goes_on
returns-else-not-goes_on c =
    let more : c.args.goes_on ≡ true = search rules in
    leave_but c.args.level.y c.args.waiting.now.items c.end_old.new.waiting.items c.args.lines.now
    (option_map growing_at c.in_ok-last.last) c.args.goes_on more c.in_ok-last.ensures
