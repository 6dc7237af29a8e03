use Rattle.std.proofs.Common.{◌≡◌, ℕ, ◌≤◌, ◌<◌, ◌-◌, Some, length, slice_get, true, false}
use Rattle.cell_tree.specs.HullTables.{is_before}
use Rattle.cell_tree.specs.declared.hulls.PairHull.{PairHull}
use Rattle.cell_tree.proofs.hulls.rank.Given as goal

abbrev pub invariant-loop-low : goal.invariant-loop-low
invariant-loop-low l = (l.low ≤ l.high) × (l.high ≤ length l.hulls)
    × ((j : ℕ) (here : PairHull) → j < l.low → slice_get l.hulls j ≡ Some here → is_before here.pair l.pair ≡ true)
    × ((j : ℕ) (here : PairHull) → l.high ≤ j → slice_get l.hulls j ≡ Some here → is_before here.pair l.pair ≡ false)

abbrev pub decreases-loop-low : goal.decreases-loop-low
decreases-loop-low l = l.high - l.low
