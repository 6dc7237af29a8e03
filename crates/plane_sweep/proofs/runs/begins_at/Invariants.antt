use Rattle.std.proofs.Common.{◌≡◌, Bool, None, length}
use Rattle.active_lines.specs.declared.item.Windings.{Windings}
use Rattle.plane_sweep.specs.StopRuns.{begins_at}
use Rattle.plane_sweep.specs.RuleTests.{IsTest}
use Rattle.plane_sweep.proofs.runs.begins_at.Given as goal

abbrev pub invariant-loop-line : goal.invariant-loop-line
invariant-loop-line g l =
    (test : Windings → Bool) → IsTest (λ a b r. g.F.Fn.post l.rule (a, (b, tt)) r) test
    → begins_at test l.inside l.found l.left ≡ begins_at test l.fn.inside None l.lines

abbrev pub decreases-loop-line : goal.decreases-loop-line
decreases-loop-line g l = length l.left
