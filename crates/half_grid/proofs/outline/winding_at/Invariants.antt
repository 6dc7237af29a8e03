use Rattle.std.proofs.Common.{◌≡◌, ◌+ℤ◌, ◌≤ℤ◌, pos, drop, neg_ℤ}
use Rattle.half_grid.specs.Winding.{winding}
use Rattle.half_grid.proofs.WindingLemmas.{winding_from}
use Rattle.half_grid.proofs.outline.winding_at.Given as goal

-- what is added up, and what is to come along the rest, is the winding
abbrev pub invariant-loop-point : goal.invariant-loop-point
invariant-loop-point l =
    (l.winding +ℤ winding_from l.tile l.previous (drop l.point-index l.rest) ≡ winding l.fn.points l.fn.tile)
    × (neg_ℤ (pos l.point-index) ≤ℤ l.winding) × (l.winding ≤ℤ pos l.point-index)
