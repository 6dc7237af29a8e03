use Rattle.std.proofs.Common.{ℕ, ◌-◌, ◌≤◌, List, drop}
use Rattle.shot_repeat.specs.Numbers.{NumbersAt, Left}
use Rattle.shot_repeat.proofs.refusing.after_numbers.Given as goal

abbrev pub invariant-loop-done : goal.invariant-loop-done
invariant-loop-done l = record {
  few : l.done ≤ l.fn.count;
  read : NumbersAt l.fn.bytes l.fn.at l.done l.next;
  left : (after : List ℕ) → Left (drop l.fn.at l.fn.bytes) l.fn.count after → Left (drop l.next l.fn.bytes) (l.fn.count - l.done) after;
}

abbrev pub decreases-loop-done : goal.decreases-loop-done
decreases-loop-done l = l.fn.count - l.done
