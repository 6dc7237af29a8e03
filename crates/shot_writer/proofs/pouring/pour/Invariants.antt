use Rattle.std.proofs.Common.{◌≡◌, List, IsTrue, ◌≤◌}
use Rattle.depot.specs.Counts.{NeverFall}
use Rattle.half_grid.specs.Trapezoids.{Trapezoid}
use Rattle.shot_writer.proofs.SoFar.{Poured}
use Rattle.shot_writer.proofs.pouring.pour.Given as goal

abbrev pub invariant-loop-shot : goal.invariant-loop-shot
invariant-loop-shot g l = record {
  poured : (items : List Trapezoid) → g.S.Stream.stands_for l.initial.shots items
      → Poured (g.S.Stream.stands_for) (IsTrue g.D.Depot.tells) l.fn.pair l.fn.before
      (g.D.Depot.content l.initial.depot) items (g.D.Depot.content l.depot) l.sums l.buffer l.shots;
  fewer : l.sums.shots ≤ l.sums.triangles;
  uncounted : g.D.Depot.counts l.depot ≡ g.D.Depot.counts l.initial.depot;
  counted : NeverFall (g.D.Depot.counts l.initial.depot) (g.D.Depot.counts l.depot);
}

abbrev pub decreases-loop-shot : goal.decreases-loop-shot
decreases-loop-shot g l = g.S.Stream.size l.shots
