-- The runs of a stop at a place further right, with no line on the way there.
use Rattle.std.proofs.Common.{ℤ, ◌≡◌, ◌≤ℤ◌, ◌<ℤ◌, inl, inr, Bool, true, false, List, [], Option, Some, None, IfSome, All, is_some}
use Rattle.std.proofs.Common.{arith, refl, ap, sym, subst, ◌∙◌}
use Rattle.std.proofs.lemmas.Int.{ints}
use Rattle.std.proofs.lemmas.List.Elements.{All-weaker}
use Rattle.half_grid.specs.Lines.{x_on}
use Rattle.half_grid.specs.Trapezoids.{Trapezoid}
use Rattle.half_grid.specs.declared.plane.Line.{Line}
use Rattle.scan_line.specs.declared.runs.Run.{Run}
use Rattle.trap_join.specs.declared.front.Growing.{Growing}
use Rattle.active_lines.specs.declared.item.ActiveLine.{ActiveLine}
use Rattle.active_lines.specs.declared.item.Windings.{Windings}
use Rattle.row_lists.specs.RowRuns.{last_windings}
use Rattle.row_lists.specs.Halfway.{PassAtOrRight}
use Rattle.plane_sweep.specs.StopRuns.{ended_runs, open_after}
use Rattle.plane_sweep.specs.States.{Stands, AreAlikeAt, IsFresh, GoesOver, StandsApart, AreJoinedAt}
use Rattle.plane_sweep.specs.Crossings.{RunsAre}
use Rattle.plane_sweep.specs.declared.entry.Runs.{Runs}
use Rattle.plane_sweep.specs.declared.entry.Runs.TheVariants.{Alike, Apart}
use Rattle.plane_sweep.proofs.OldLines.{end_beyond}
use Rattle.plane_sweep.proofs.QuietAlike.{raise}
use Rattle.plane_sweep.proofs.EnterApart.{joined_open}

module _ (takes : Windings → Bool) (y x to : ℤ) (up : x ≤ℤ to) (rest : List ActiveLine) (right : PassAtOrRight y to rest) (w : Windings)
    (shut : takes (last_windings w rest) ≡ false) where
  over_further : (line : Line) → takes w ≡ true → GoesOver takes y x rest line → GoesOver takes y to rest line
  over_further line inside h = record {
    reaches = subst (λ (k : Line). to ≤ℤ x_on k y) (sym h.ends.is)
        (end_beyond takes (λ (k : Line). to ≤ℤ x_on k y) h.ends.from w [] rest right inside refl shut);
    ends = h.ends;
  }

  over_by : (line : Option Line) → takes w ≡ is_some line → IfSome line (GoesOver takes y x rest) → IfSome line (GoesOver takes y to rest)
  over_by None fit h = tt
  over_by (Some line) fit h = over_further line fit h

  fresh_further : (closed : List Growing) (runs : List Run) (p : Option Growing) → IfSome p (IsFresh y x closed runs) → IfSome p (IsFresh y to closed runs)
  fresh_further closed runs None h = tt
  fresh_further closed runs (Some g) h =
      let lt = h.left in
      record {
        since = h.since;
        left = omega (arith, ints, lt, up);
        new = All-weaker (λ (c : Growing). c.left ≡ g.left → x_on c.right y <ℤ x) (λ (c : Growing). c.left ≡ g.left → x_on c.right y <ℤ to)
            (λ c q same. (let near = q same in omega (arith, ints, near, up))) closed h.new;
        run_elsewhere = h.run_elsewhere;
      }

  grow_further : (closed : List Growing) → All (λ g. x_on g.left y <ℤ x) closed → All (λ g. x_on g.left y <ℤ to) closed
  grow_further closed h = All-weaker (λ (g : Growing). x_on g.left y <ℤ x) (λ (g : Growing). x_on g.left y <ℤ to) (λ g q. omega (arith, ints, q, up)) closed h

  run_further : (runs : List Run) → All (λ r. x_on r.left y <ℤ x) runs → All (λ r. x_on r.left y <ℤ to) runs
  run_further runs h = All-weaker (λ (r : Run). x_on r.left y <ℤ x) (λ (r : Run). x_on r.left y <ℤ to) (λ r q. omega (arith, ints, q, up)) runs h

  apart_further : (closed : List Growing) (runs : List Run) (fresh : List Growing) (given : List Trapezoid) (p : Option Growing) (o : Option ActiveLine)
      (line : Option Line) → takes w ≡ is_some line → StandsApart takes y x rest closed runs fresh given p o line
      → StandsApart takes y to rest closed runs fresh given p o line
  apart_further closed runs fresh given p o line fit s = record {
    settled = s.settled;
    at = s.at;
    grow = grow_further closed s.grow;
    run = run_further runs s.run;
    begun = fresh_further closed runs p s.begun;
    over = over_by line fit s.over;
  }

  pending_further : (closed : List Growing) (runs : List Run) (fresh : List Growing) (given : List Trapezoid) (p : Option Growing) (o : Option ActiveLine)
      → Stands takes y x rest closed runs fresh given p o → IfSome p (λ g. x_on g.left y <ℤ to)
  pending_further closed runs fresh given None o s = tt
  pending_further closed runs fresh given (Some g) o s = (let lt = s.pends.left in omega (arith, ints, lt, up))

  module _ (gone before : List ActiveLine) (given : List Trapezoid) where
    alike_further : AreAlikeAt takes y x gone before rest given → AreAlikeAt takes y to gone before rest given
    alike_further s =
        let runs = ended_runs takes None before in
        let o = open_after takes None before in
        record {
          closed = s.closed;
          fresh = s.fresh;
          growing = s.growing;
          stands = raise takes y x to rest s.closed runs s.fresh given s.growing o s.stands (grow_further s.closed s.stands.grow)
              (run_further runs s.stands.run) (pending_further s.closed runs s.fresh given s.growing o s.stands);
          gone_is = s.gone_is;
          before_is = s.before_is;
        }

    joined_further : AreJoinedAt takes y x gone before rest given → takes w ≡ is_some (open_after takes None before)
        → AreJoinedAt takes y to gone before rest given
    joined_further s fit =
        let k = joined_open takes y x gone before rest given s in
        let inside : takes w ≡ true = fit ∙ ap (λ (o : Option ActiveLine). is_some o) k.opening in
        record {
          fresh = s.fresh;
          growing = s.growing;
          stands = apart_further _ _ s.fresh given (Some s.growing) _ (Some s.growing.right) inside s.stands;
          before_is = s.before_is;
        }

    pub runs_further : (runs : Runs) → RunsAre takes y x gone before rest given w runs → RunsAre takes y to gone before rest given w runs
    runs_further Alike (inl s, fit) = (inl (alike_further s), fit)
    runs_further Alike (inr s, fit) = (inr (joined_further s fit), fit)
    runs_further (Apart line) (s, fit) = (
      record {
        fresh = s.fresh;
        growing = s.growing;
        stands = apart_further _ _ s.fresh given s.growing _ line fit s.stands;
        before_is = s.before_is;
      },
      fit,
    )
