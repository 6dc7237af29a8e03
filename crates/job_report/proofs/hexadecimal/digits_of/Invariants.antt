use Rattle.std.proofs.Common.{◌≡◌, ◌*◌, length, take, flat_map}
use Rattle.job_report.specs.Pieces.{byte_digits}
use Rattle.job_report.proofs.hexadecimal.digits_of.Given as goal

abbrev pub invariant-loop-byte : goal.invariant-loop-byte
invariant-loop-byte l = record {
  value : l.buffer ≡ flat_map byte_digits (take l.byte-index l.byte-items);
  size : length l.buffer ≡ 2 * l.byte-index;
}
