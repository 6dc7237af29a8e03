use Rattle.std.proofs.Common.{◌≡◌, ◌≤◌, List, length}
use Rattle.half_grid.specs.declared.plane.Point.{Point}
use Rattle.oas_record.specs.Lists.{HasDeltas}
use Rattle.oas_record.proofs.ListLemmas.{turns}
use Rattle.oas_record.proofs.lists.end_of_deltas.Given as goal

abbrev pub invariant-loop-index : goal.invariant-loop-index
invariant-loop-index l = record {
  stands : (ps : List Point) × (length ps ≡ l._index) × (l.current ≡ turns ps l.fn.form) × HasDeltas l.fn.form l.fn.bytes l.fn.at ps l.next;
  within : l.next ≤ length l.fn.bytes;
}
