use Rattle.std.proofs.Common.{◌≡◌, ◌++◌, ℕ, List, vec_capacity}
use Rattle.field_output.proofs.filling.fill.Given as goal

-- what was filled in and what is still to come are the list
abbrev pub invariant-loop-number : goal.invariant-loop-number
invariant-loop-number g l = record {
  items : (items : List ℕ) → g.S.Stream.stands_for l.fn.stream items → (rest : List ℕ) ×
      (items ≡ l.numbers.items ++ rest) × g.S.Stream.stands_for l.stream rest;
  capacity : vec_capacity l.numbers ≡ vec_capacity l.fn.numbers;
}

abbrev pub decreases-loop-number : goal.decreases-loop-number
decreases-loop-number g l = g.S.Stream.size l.stream
