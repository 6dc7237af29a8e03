use Rattle.std.proofs.Common.{◌≤◌, length}
use Rattle.oas_record.specs.Values.{EndsValues}
use Rattle.oas_record.proofs.values.end_of_values.Given as goal

abbrev pub invariant-loop-index : goal.invariant-loop-index
invariant-loop-index l = record {
  stands : EndsValues l._index l.fn.bytes l.fn.at l.next;
  within : l.next ≤ length l.fn.bytes;
}
