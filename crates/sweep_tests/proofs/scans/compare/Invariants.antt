use Rattle.std.proofs.Common.{◌≡◌}
use Rattle.sweep_tests.proofs.scans.compare.Given as goal

abbrev pub invariant-slabs : goal.invariant-slabs
invariant-slabs g l = l.sweep.rule ≡ l.fn.scan.rule
