use Rattle.std.proofs.Common.{◌≡◌, Bool, None, length}
use Rattle.std.specs.Prelude.{option_map}
use Rattle.active_lines.specs.declared.item.Windings.{Windings}
use Rattle.plane_sweep.specs.StopRuns.{leaving_of}
use Rattle.plane_sweep.specs.RuleTests.{IsTest, growing_at}
use Rattle.plane_sweep.proofs.runs.leaving_of.Given as goal

abbrev pub invariant-loop-line : goal.invariant-loop-line
invariant-loop-line g l =
    (test : Windings → Bool) → IsTest (λ a b r. g.F.Fn.post l.rule (a, (b, tt)) r) test
    → leaving_of test (option_map growing_at l.found) l.left ≡ leaving_of test None l.lines

abbrev pub decreases-loop-line : goal.decreases-loop-line
decreases-loop-line g l = length l.left
