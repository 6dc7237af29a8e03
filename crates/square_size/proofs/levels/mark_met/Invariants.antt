use Rattle.std.proofs.Common.{◌≡◌, ℕ, ◌≤◌, ◌<◌, true, false, length, get_or}
use Rattle.square_size.proofs.levels.mark_met.Given as goal

abbrev pub invariant-loop-low : goal.invariant-loop-low
invariant-loop-low l = record {
  within : l.low ≤ l.rank;
  many : length l.marks ≡ length l.fn.marks;
  kept : (j : ℕ) → get_or l.fn.marks j false ≡ true → get_or l.marks j false ≡ true;
  met : (j : ℕ) → l.low ≤ j → j < l.rank → get_or l.marks j false ≡ true;
}

abbrev pub decreases-loop-low : goal.decreases-loop-low
decreases-loop-low l = l.low
