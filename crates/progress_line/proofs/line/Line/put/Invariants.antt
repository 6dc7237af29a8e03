use Rattle.std.proofs.Common.{◌≡◌, take}
use Rattle.progress_line.specs.Text.{put}
use Rattle.progress_line.proofs.line.Line.put.Given as goal

abbrev pub invariant-loop-byte : goal.invariant-loop-byte
invariant-loop-byte l = record {
  value : l.self ≡ put l.initial.self (take l.byte-index l.bytes);
}
