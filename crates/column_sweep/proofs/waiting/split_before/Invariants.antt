use Rattle.std.proofs.Common.{◌≡◌, ◌≤◌, ℤ, length, drop}
use Rattle.column_sweep.specs.Dealing.{RisesPast}
use Rattle.column_sweep.proofs.waiting.split_before.Given as goal

abbrev pub invariant-loop-edge : goal.invariant-loop-edge
invariant-loop-edge l = record {
  bound : l.count ≤ length l.fn.waiting;
  left : l.left ≡ drop l.count l.fn.waiting;
  rises : (x : ℤ) → RisesPast x l.fn.waiting → RisesPast x l.left;
}

abbrev pub decreases-loop-edge : goal.decreases-loop-edge
decreases-loop-edge l = length l.left
