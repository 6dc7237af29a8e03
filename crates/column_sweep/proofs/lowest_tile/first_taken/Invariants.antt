use Rattle.std.proofs.Common.{◌≡◌, ◌-ℤ◌}
use Rattle.trap_join.specs.Joins.{rows_up}
use Rattle.column_sweep.proofs.LowestTiles.{TakesNoneBelow}
use Rattle.column_sweep.proofs.lowest_tile.first_taken.Given as goal

-- nothing below the scan is taken
abbrev pub invariant-loop-slab : goal.invariant-loop-slab
invariant-loop-slab g l = record {
  rule : l.scan.rule ≡ l.initial.scan.rule;
  edges : l.scan.edges ≡ l.initial.scan.edges;
  window : l.scan.window ≡ l.initial.scan.window;
  none : TakesNoneBelow (λ a b r. g.F.Fn.post l.initial.scan.rule (a, (b, tt)) r) l.initial.scan.edges l.initial.scan.window l.scan.y;
}

abbrev pub decreases-loop-slab : goal.decreases-loop-slab
decreases-loop-slab g l = rows_up (l.scan.window.y1 -ℤ l.scan.y)
