use Rattle.std.proofs.Common.{◌≡◌, ◌≤◌, ◌-◌, length, take}
use Rattle.cell_tree.specs.Counting.{saturated, own_count}
use Rattle.cell_tree.proofs.crowds.own_count.Given as goal

abbrev pub invariant-loop-k : goal.invariant-loop-k
invariant-loop-k l = (l.k ≤ length l.shapes) × (l.count ≡ saturated (own_count (take l.k l.shapes)))

abbrev pub decreases-loop-k : goal.decreases-loop-k
decreases-loop-k l = length l.shapes - l.k
