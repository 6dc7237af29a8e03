-- From one stop to the next: what a sweep joined up to there.
use Rattle.std.proofs.Common.{ℤ, pos, ◌^◌, ◌≤◌, ◌-ℤ◌, ◌≡◌, ◌≤ℤ◌, ◌<ℤ◌, inl, inr, Bool, false, List, [], ◌∷◌, ◌++◌, map}
use Rattle.std.proofs.Common.{length, All, arith, refl, ap, sym, subst, ◌∙◌}
use Rattle.std.proofs.lemmas.Int.{ints, by_lt_z}
use Rattle.half_grid.specs.Edges.{EdgeParts, IsEdge}
use Rattle.half_grid.specs.Trapezoids.{Trapezoid, IsShot}
use Rattle.half_grid.specs.Windows.{RowRange}
use Rattle.scan_line.specs.Runs.{IsBalanced}
use Rattle.trap_join.specs.declared.front.Growing.{Growing}
use Rattle.trap_join.specs.Fronts.{ended_at, ended}
use Rattle.trap_join.specs.Joins.{IsJoinedSoFar}
use Rattle.trap_join.proofs.ForCallers.{joined_none, front_shots, joined_end}
use Rattle.active_lines.specs.declared.item.ActiveLine.{ActiveLine}
use Rattle.active_lines.specs.declared.item.Windings.{Windings}
use Rattle.row_lists.specs.Weights.{IsOutside, NoEnds}
use Rattle.row_lists.specs.RowLists.{IsRowList, NoMeetings, no_windings}
use Rattle.row_lists.specs.RowRuns.{last_windings, runs_of}
use Rattle.row_lists.proofs.ForCallers.{none_in_empty_row}
use Rattle.plane_sweep.specs.StopRuns.{growing_of}
use Rattle.plane_sweep.specs.Settled.{IsSettled}
use Rattle.plane_sweep.specs.RuleTests.{IsTest}
use Rattle.plane_sweep.specs.Sweeps.{JoinsAbove}
use Rattle.plane_sweep.proofs.Settling.{nothing_settled}
use Rattle.plane_sweep.proofs.Balance.{row_balanced}
use Rattle.plane_sweep.proofs.FirstLast.{next_joined}
use Rattle.plane_sweep.proofs.RuleAsTest.{test_in}

-- ---- below the window

-- the edge begins above these rows
above_rows : (window : RowRange) (top y : ℤ) → window.y0 ≤ℤ y → IsOutside (window.y0 -ℤ pos 1) (top -ℤ pos 1) y → (top -ℤ pos 1) <ℤ y
above_rows window top y from (inl a) = absurd (omega (arith, ints, from, a))
above_rows window top y from (inr b) = b

later_outside : (low j k y : ℤ) → low ≤ℤ j → IsOutside low k y → IsOutside j k y
later_outside low j k y h (inl a) = inl (omega (arith, ints, h, a))
later_outside low j k y h (inr b) = inr b

module _ (post : ℤ → ℤ → Bool → Type 0) (takes : Windings → Bool) (edges : List EdgeParts) (window : RowRange) (known : All IsEdge edges)
    (test : IsTest post takes)
    (nothing : takes no_windings ≡ false) (short : length edges ≤ 2 ^ 64) where
  -- nothing is joined as long as no edge begins
  pub first_joins : All (λ e. window.y0 ≤ℤ e.y0) edges → JoinsAbove post edges window (window.y0 -ℤ pos 1) [] []
  first_joins inside top up within ends meetings =
      by_lt_z window.y0 top
      (λ lt. next_joined post edges window takes window.y0 top [] [] [] [] known
      (none_in_empty_row edges window.y0 (λ k d less. (let b = above_rows window top _ (inside k d less) (ends k d less).0 in
      inl (omega (arith, ints, lt, b)))))
      nothing nothing (λ j from below. test_in post takes edges j test short) (joined_none post edges window window.y0 refl)
      (nothing_settled window.y0) lt within
      (λ k d less. (
        later_outside (window.y0 -ℤ pos 1) window.y0 (top -ℤ pos 1) _ (omega (arith, ints)) (ends k d less).0,
        later_outside (window.y0 -ℤ pos 1) window.y0 (top -ℤ pos 1) _
            (omega (arith, ints)) (ends k d less).1,
      ))
      (λ z low high s. s))
      (λ le. joined_none post edges window top (omega (arith, ints, up, le)))

  module _ (balanced : IsBalanced edges window) (y stop : ℤ) (lines next : List ActiveLine) (given done : List Trapezoid)
      (joins : JoinsAbove post edges window y lines given) (up : y <ℤ stop)
      (within : stop ≤ℤ window.y1) (ends : NoEnds edges y (stop -ℤ pos 1)) (meetings : NoMeetings lines y (stop -ℤ pos 1)) where
    so_far : IsJoinedSoFar post edges window stop given (map (ended_at stop) (growing_of lines))
    so_far = joins stop up within ends meetings

    -- what grows up to the stop
    pub stop_shots : All (λ g. IsShot (ended_at stop g)) (growing_of lines)
    stop_shots = front_shots post edges window stop given (growing_of lines) so_far

    -- above the stop
    pub next_joins : IsRowList edges stop next → IsSettled stop (growing_of lines) (runs_of takes false next) (growing_of next) done
        → JoinsAbove post edges window stop next (given ++ done)
    next_joins list settled top above inside no_ends no_meetings =
        let low = so_far.low in
        let shut : takes (last_windings no_windings next) ≡ false = ap takes
        (row_balanced edges window stop next balanced low (omega (arith, ints, above, inside)) list) ∙ nothing in
        next_joined post edges window takes stop top given done (growing_of lines) next known list nothing shut
        (λ j from below. test_in post takes edges j test short) so_far settled above inside
        no_ends no_meetings

    -- at the top of the window all is given
    pub all_joined : stop ≡ window.y1 → next ≡ [] → IsSettled stop (growing_of lines) (runs_of takes false next) (growing_of next) done
        → IsJoinedSoFar post edges window stop (given ++ done) []
    all_joined at_end none settled =
        subst (λ (zs : List Trapezoid). IsJoinedSoFar post edges window stop (given ++ zs) [])
        (sym (settled.ends ∙ (ap (λ (ls : List ActiveLine). ended (runs_of takes false ls) stop (growing_of lines)) none ∙ all_ended (growing_of lines))))
        (joined_end post edges window stop given (growing_of lines) so_far at_end)
      where
        all_ended : (front : List Growing) → ended [] stop front ≡ map (ended_at stop) front
        all_ended [] = refl
        all_ended (g ∷ front) = ap (λ (zs : List Trapezoid). ended_at stop g ∷ zs) (all_ended front)
