-- What becomes of the runs that enter a point: the one of the row below, and the one of the row above.
use Rattle.std.proofs.Common.{ℕ, ℤ, zero, suc, ◌<◌, slice_index_or, ◌≡◌, ◌≢◌, ◌<ℤ◌, Bool, List, [], ◌∷◌, ◌++◌, Option}
use Rattle.std.proofs.Common.{Some, arith, ap, sym, subst, ◌∙◌, inl, inr}
use Rattle.std.specs.List.{Contains}
use Rattle.std.proofs.lemmas.Int.{ints}
use Rattle.std.proofs.lemmas.List.Elements.{All-nil, All-cons, All-append, All-weaker, Contains-append_cases}
use Rattle.half_grid.specs.Lines.{x_on}
use Rattle.half_grid.specs.Trapezoids.{Trapezoid}
use Rattle.half_grid.specs.declared.plane.Line.{Line}
use Rattle.scan_line.specs.declared.runs.Run.{Run}
use Rattle.trap_join.specs.declared.front.Growing.{Growing}
use Rattle.trap_join.specs.Fronts.{grown_into, ended_at}
use Rattle.active_lines.specs.declared.item.ActiveLine.{ActiveLine}
use Rattle.active_lines.specs.declared.item.Windings.{Windings}
use Rattle.plane_sweep.specs.Settled.{IsSettled, IsNew}
use Rattle.plane_sweep.specs.Points.{GrowLeft, RunLeft, IsApartFrom}
use Rattle.plane_sweep.proofs.Settling.{one_begins}
use Rattle.plane_sweep.specs.States.{IsAlone, Stands, IsFresh, StandsApart}
use Rattle.plane_sweep.proofs.PointSteps.{alone_new, other_right, enters_apart, entering_goes_on, entering_ends}
use Rattle.plane_sweep.proofs.NewLines.{run_to}

-- what is settled of what stands left of the point
pub record Core (y x : ℤ) (closed : List Growing) (runs : List Run) (fresh : List Growing) (given : List Trapezoid) : Type 0 where
  pub settled : IsSettled y closed runs fresh given
  pub grow : GrowLeft y x closed
  pub run : RunLeft y x runs

one_grow : (y x : ℤ) (closed : List Growing) (g : Growing) → GrowLeft y x closed → x_on g.left y <ℤ x → GrowLeft y x (closed ++ g ∷ [])
one_grow y x closed g h lt =
    All-append (λ c. x_on c.left y <ℤ x) closed (g ∷ []) h (All-cons (λ c. x_on c.left y <ℤ x) g [] lt (All-nil (λ c. x_on c.left y <ℤ x)))

one_run : (y x : ℤ) (runs : List Run) (r : Run) → RunLeft y x runs → x_on r.left y <ℤ x → RunLeft y x (runs ++ r ∷ [])
one_run y x runs r h lt =
    All-append (λ s. x_on s.left y <ℤ x) runs (r ∷ []) h (All-cons (λ s. x_on s.left y <ℤ x) r [] lt (All-nil (λ s. x_on s.left y <ℤ x)))

only_one : (g p : Growing) → Contains (g ∷ []) p → g ≡ p
only_one g p h = by h.0 h.1 h.2
  where
    by : (k : ℕ) → k < 1 → slice_index_or (g ∷ []) k p ≡ p → g ≡ p
    by zero lt e = e
    by (suc k) lt e = absurd (omega (arith, lt))

module _ (takes : Windings → Bool) (y x : ℤ) (rest : List ActiveLine) (closed : List Growing) (runs : List Run)
    (fresh : List Growing) (given : List Trapezoid) (g : Growing) (o : ActiveLine) where
  module _ (s : Stands takes y x rest closed runs fresh given (Some g) (Some o)) where
    left_too : x_on o.line y <ℤ x
    left_too = subst (λ (k : Line). x_on k y <ℤ x) s.at s.pends.left

    -- both end at one line: the trapezoid goes on
    pub enters_same : (e : Line) → g.right ≡ e → Core y x (closed ++ g ∷ []) (runs ++ run_to o e ∷ []) (fresh ++ g ∷ []) given
    enters_same e same = record {
      settled = entering_goes_on y closed runs fresh given g (run_to o e) s.settled s.pends.alone s.at same;
      grow = one_grow y x closed g s.grow s.pends.left;
      run = one_run y x runs (run_to o e) s.run left_too;
    }

    -- the one above goes on beyond the one below: the trapezoid ends
    pub enters_over : Core y x (closed ++ g ∷ []) runs fresh (given ++ ended_at y g ∷ [])
    enters_over = record {
      settled = entering_ends y closed runs fresh given g s.settled s.pends.alone;
      grow = one_grow y x closed g s.grow s.pends.left;
      run = s.run;
    }

    -- the one above ends at another line than the one below: the trapezoid ends, and another one is there
    new_other : (e : Line) → g.right ≢ e → IsNew (closed ++ g ∷ []) (run_to o e)
    new_other e other p member =
        elim (Contains-append_cases closed (g ∷ []) p member) [
          | inl m ↦ alone_new closed runs (run_to o e) (subst (IsAlone closed runs) s.at s.pends.alone) p m
          | inr m ↦ (let same = only_one g p m in other_right p (run_to o e) (λ k. other (ap (λ (c : Growing). c.right) same ∙ k)))
        ]

    pub enters_other : (e : Line) → g.right ≢ e → Core y x (closed ++ g ∷ []) (runs ++ run_to o e ∷ [])
        (fresh ++ grown_into [] y (run_to o e) ∷ []) (given ++ ended_at y g ∷ [])
    enters_other e other = record {
      settled = one_begins y (closed ++ g ∷ []) runs fresh (given ++ ended_at y g ∷ []) (run_to o e) enters_over.settled (new_other e other);
      grow = one_grow y x closed g s.grow s.pends.left;
      run = one_run y x runs (run_to o e) s.run left_too;
    }

  -- a run that began at the stop ends in the point
  pub apart_enters : (right : Option Line) → StandsApart takes y x rest closed runs fresh given (Some g) (Some o) right → (e : Line) → x_on e y ≡ x
      → Core y x closed (runs ++ run_to o e ∷ []) (fresh ++ grown_into [] y (run_to o e) ∷ []) given
  apart_enters right s e at = record {
    settled = enters_apart y closed runs fresh given (run_to o e) s.settled (none_reaches s.begun);
    grow = s.grow;
    run = one_run y x runs (run_to o e) s.run (subst (λ (k : Line). x_on k y <ℤ x) s.at s.begun.left);
  }
    where
      none_reaches : IsFresh y x closed runs g → IsApartFrom y closed (run_to o e)
      none_reaches f =
          All-weaker (λ c. c.left ≡ g.left → x_on c.right y <ℤ x) (λ c. c.left ≡ o.line → x_on c.right y ≢ x_on e y)
          (λ c h same k. (let lt = h (same ∙ sym s.at) in absurd (omega (arith, ints, lt, at, k)))) closed f.new
