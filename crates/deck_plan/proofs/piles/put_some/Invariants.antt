use Rattle.std.proofs.Common.{◌≤◌, List}
use Rattle.half_grid.specs.Quads.{Corners}
use Rattle.deck_plan.proofs.PileLemmas.{PutSome}
use Rattle.deck_plan.proofs.piles.put_some.Given as goal

-- some were put, and the stream has the others
abbrev pub invariant-loop-n : goal.invariant-loop-n
invariant-loop-n g l = record {
  put : (list : List Corners) → g.S.Stream.stands_for l.fn.quads list → PutSome (g.S.Stream.stands_for l.quads) list l.fn.edges.items l.edges.items;
  size : g.S.Stream.size l.quads ≤ g.S.Stream.size l.fn.quads;
}
