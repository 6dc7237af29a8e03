-- Runs that pass a point: none of the lines through it ends them.
use Rattle.std.proofs.Common.{ℤ, pos, ◌+ℤ◌, ◌≡◌, ◌≤ℤ◌, ◌<ℤ◌, Bool, true, false, List, ◌++◌, Some, arith, sym, subst, ◌∙◌}
use Rattle.std.proofs.lemmas.Int.{ints}
use Rattle.std.proofs.lemmas.List.Elements.{All-weaker}
use Rattle.half_grid.specs.Lines.{x_on}
use Rattle.half_grid.specs.Trapezoids.{Trapezoid}
use Rattle.half_grid.specs.declared.plane.Line.{Line}
use Rattle.scan_line.specs.declared.runs.Run.{Run}
use Rattle.trap_join.specs.declared.front.Growing.{Growing}
use Rattle.active_lines.specs.declared.item.ActiveLine.{ActiveLine}
use Rattle.active_lines.specs.declared.item.Windings.{Windings}
use Rattle.row_lists.specs.RowRuns.{end_of, last_windings}
use Rattle.row_lists.specs.Halfway.{PassAtOrRight}
use Rattle.plane_sweep.specs.States.{EndsAmong, Stands, GoesOver}
use Rattle.plane_sweep.specs.StopRuns.{ends_among}
use Rattle.plane_sweep.proofs.OldLines.{ends_in_rest, end_beyond}

module _ (takes : Windings → Bool) (y x : ℤ) (old rest : List ActiveLine) (none : ends_among takes old ≡ false) where
  beyond : (right from : Line) → right ≡ end_of takes from (old ++ rest) → EndsAmong takes rest right
  beyond right from is =
      let e = ends_in_rest takes from old rest none in
      record { from = e.from; is = is ∙ e.is }

  -- the same run below and above passes
  pub passes_on : (closed : List Growing) (runs : List Run) (fresh : List Growing) (given : List Trapezoid) (g : Growing) (o : ActiveLine)
      → Stands takes y x (old ++ rest) closed runs fresh given (Some g) (Some o) → Stands takes y (x +ℤ pos 1) rest closed runs fresh given (Some g) (Some o)
  passes_on closed runs fresh given g o s =
      let e = beyond g.right s.pends.from s.pends.right in
      let lt = s.pends.left in
      record {
        settled = s.settled;
        at = s.at;
        grow = All-weaker (λ c. x_on c.left y <ℤ x) (λ c. x_on c.left y <ℤ (x +ℤ pos 1)) (λ c q. omega (arith, ints, q)) closed s.grow;
        run = All-weaker (λ r. x_on r.left y <ℤ x) (λ r. x_on r.left y <ℤ (x +ℤ pos 1)) (λ r q. omega (arith, ints, q)) runs s.run;
        pends = record { alone = s.pends.alone; left = omega (arith, ints, lt); from = e.from; right = e.is };
      }

  -- the run below passes, whatever the one above does
  pub below_passes : (line : Line) (w : Windings) → GoesOver takes y x (old ++ rest) line
      → PassAtOrRight y (x +ℤ pos 1) rest → takes w ≡ true → takes (last_windings w (old ++ rest)) ≡ false
      → GoesOver takes y (x +ℤ pos 1) rest line
  below_passes line w h right inside shut = record {
    reaches = subst (λ (k : Line). (x +ℤ pos 1) ≤ℤ x_on k y) (sym h.ends.is)
        (end_beyond takes (λ (k : Line). (x +ℤ pos 1) ≤ℤ x_on k y) h.ends.from w old rest right inside none shut);
    ends = beyond line h.ends.from h.ends.is;
  }
