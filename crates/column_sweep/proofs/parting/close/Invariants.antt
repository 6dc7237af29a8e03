use Rattle.std.proofs.Common.{◌≡◌, ◌++◌, drop, map}
use Rattle.column_sweep.specs.Parts.{turned}
use Rattle.column_sweep.proofs.parting.close.Given as goal

abbrev pub invariant-loop-edge : goal.invariant-loop-edge
invariant-loop-edge l =
    (l.parts.own.items ++ map turned (drop l.edge-index l.sums) ≡ l.initial.parts.own.items ++ map turned l.sums)
    × (l.parts.beyond.items ++ drop l.edge-index l.sums ≡ l.initial.parts.beyond.items ++ l.sums)
