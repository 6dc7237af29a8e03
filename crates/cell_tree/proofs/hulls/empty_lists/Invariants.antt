use Rattle.std.proofs.Common.{◌≡◌, ℕ, [], length, map, get_or}
use Rattle.cell_tree.proofs.hulls.empty_lists.Given as goal

abbrev pub invariant-loop-n : goal.invariant-loop-n
invariant-loop-n l = record {
  long : length l.lists.items ≡ l._n;
  empty : (n : ℕ) → get_or (map (λ list. list.items) l.lists.items) n [] ≡ [];
}
