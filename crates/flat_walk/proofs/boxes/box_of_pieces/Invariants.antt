use Rattle.std.proofs.Common.{◌≡◌, ◌^◌, ◌++◌, List, length}
use Rattle.half_grid.specs.Trapezoids.{Trapezoid}
use Rattle.cell_tree.specs.Boxes.{IsBoxUpTo}
use Rattle.flat_walk.specs.PieceLists.{listed, AreShots}
use Rattle.flat_walk.proofs.BoxLemmas.{AreIn}
use Rattle.flat_walk.proofs.boxes.box_of_pieces.Given as goal

-- a box of all so far
abbrev pub invariant-loop-quad : goal.invariant-loop-quad
invariant-loop-quad l = record {
  shots : AreShots l.rest;
  around : (before : List Trapezoid) × (listed l.fn.pieces ≡ before ++ listed l.rest) × AreIn l.around before;
  near : IsBoxUpTo (2 ^ 44) l.around;
}

abbrev pub decreases-loop-quad : goal.decreases-loop-quad
decreases-loop-quad l = length (listed l.rest)
