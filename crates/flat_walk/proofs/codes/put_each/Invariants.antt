use Rattle.std.proofs.Common.{◌≡◌, ◌≤◌, ◌+◌, ◌-◌, ◌++◌, replicate, vec_capacity}
use Rattle.std.specs.Vec.{vec_len}
use Rattle.flat_walk.proofs.codes.put_each.Given as goal

abbrev pub invariant-loop-number : goal.invariant-loop-number
invariant-loop-number g l = record {
  items : l.codes.items ≡ l.fn.codes.items ++ replicate l._number l.code;
  room : vec_len l.codes + (l.count - l._number) ≤ vec_capacity l.codes;
}
