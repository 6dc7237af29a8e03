use Rattle.std.proofs.Common.{◌≡◌, drop}
use Rattle.trap_join.specs.Fronts.{all_go_on}
use Rattle.trap_join.proofs.merge.all_go_on.Given as goal

abbrev pub invariant-loop-i : goal.invariant-loop-i
invariant-loop-i l = all_go_on (drop l.i l.front) (drop l.i l.runs) ≡ all_go_on l.front l.runs
