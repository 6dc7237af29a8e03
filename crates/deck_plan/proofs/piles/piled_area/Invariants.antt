use Rattle.std.proofs.Common.{◌≡◌, ◌++◌, List}
use Rattle.half_grid.specs.Quads.{Corners}
use Rattle.deck_plan.specs.Lists.{HasArea}
use Rattle.deck_plan.specs.Rings.{AreQuads, IsInSomeQuad}
use Rattle.deck_plan.proofs.piles.piled_area.Given as goal

-- the area of those that were taken, and the stream has the others
abbrev pub invariant-loop-quad : goal.invariant-loop-quad
invariant-loop-quad g l = (list : List Corners) → g.S.Stream.stands_for l.fn.quads list → AreQuads list
    → (done rest : List Corners) × (list ≡ done ++ rest) × g.S.Stream.stands_for l.quads rest × HasArea l.window (IsInSomeQuad done) l.area.items

abbrev pub decreases-loop-quad : goal.decreases-loop-quad
decreases-loop-quad g l = g.S.Stream.size l.quads
