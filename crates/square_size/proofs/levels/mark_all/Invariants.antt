use Rattle.std.proofs.Common.{◌≡◌, length}
use Rattle.square_size.specs.Levels.{AreMarkedTo}
use Rattle.square_size.proofs.levels.mark_all.Given as goal

abbrev pub invariant-loop-k : goal.invariant-loop-k
invariant-loop-k l = record {
  many : length l.marks ≡ length l.fn.traps;
  apart : AreMarkedTo l.fn.traps l.marks l.k;
}
