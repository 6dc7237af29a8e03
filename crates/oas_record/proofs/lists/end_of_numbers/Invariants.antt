use Rattle.std.proofs.Common.{◌≡◌, ◌≤◌, ℕ, List, length}
use Rattle.oas_record.specs.Lists.{HasNumbers}
use Rattle.oas_record.proofs.lists.end_of_numbers.Given as goal

abbrev pub invariant-loop-index : goal.invariant-loop-index
invariant-loop-index l = record {
  stands : (ns : List ℕ) × (length ns ≡ l._index) × HasNumbers l.fn.bytes l.fn.at ns l.next;
  within : l.next ≤ length l.fn.bytes;
}
