use Rattle.std.proofs.Common.{◌≡◌, ◌+◌, ◌++◌, take, length}
use Rattle.depot.proofs.buffer.Buffer.put.Given as goal

abbrev pub invariant-loop-byte : goal.invariant-loop-byte
invariant-loop-byte l = record {
  value : l.self ≡ l.initial.self ++ take l.byte-index l.bytes;
  size : length l.self ≡ length l.initial.self + l.byte-index;
}
