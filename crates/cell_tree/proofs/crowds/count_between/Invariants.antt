use Rattle.std.proofs.Common.{◌≡◌, ◌-◌, take, drop}
use Rattle.cell_tree.specs.Counting.{saturated, own_count}
use Rattle.cell_tree.proofs.crowds.count_between.Given as goal

abbrev pub invariant-loop-number : goal.invariant-loop-number
invariant-loop-number l = l.count ≡ saturated (own_count (take (l.number - l.from) (drop l.from l.shapes)))
