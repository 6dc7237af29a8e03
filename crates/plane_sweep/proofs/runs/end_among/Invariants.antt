use Rattle.std.proofs.Common.{◌≡◌, Bool, length}
use Rattle.active_lines.specs.declared.item.Windings.{Windings}
use Rattle.plane_sweep.specs.StopRuns.{end_among}
use Rattle.plane_sweep.specs.RuleTests.{IsTest}
use Rattle.plane_sweep.proofs.runs.end_among.Given as goal

abbrev pub invariant-loop-line : goal.invariant-loop-line
invariant-loop-line g l = (test : Windings → Bool) → IsTest (λ a b r. g.F.Fn.post l.rule (a, (b, tt)) r) test → end_among test l.left ≡ end_among test l.lines

abbrev pub decreases-loop-line : goal.decreases-loop-line
decreases-loop-line g l = length l.left
