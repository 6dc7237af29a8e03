use Rattle.std.proofs.Common.{◌≤◌, ◌-◌, All, length, take}
use Rattle.deck_plan.specs.Images.{HasTop}
use Rattle.deck_plan.proofs.mirroring.with_top_of.Given as goal

-- so far all have the top
abbrev pub invariant-loop-count : goal.invariant-loop-count
invariant-loop-count l = record {
  within : l.count ≤ length l.traps;
  same : All (HasTop l.first.y1) (take l.count l.traps);
}

abbrev pub decreases-loop-count : goal.decreases-loop-count
decreases-loop-count l = length l.traps - l.count
