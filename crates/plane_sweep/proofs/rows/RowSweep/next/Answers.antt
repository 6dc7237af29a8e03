use Rattle.std.proofs.Common.{FitsSigned, w64, rules, sym, subst}
use Rattle.std.proofs.lemmas.Int.{to_z-of_z}
use Rattle.active_lines.specs.ActiveLists.{ActiveList, items}
use Rattle.row_lists.specs.RowLists.{IsRowList}
use Rattle.plane_sweep.specs.Stops.{IsBelowStop}
use Rattle.plane_sweep.specs.RowSweeps.{RowSweepState, IsAbove, GoesUp}
use Rattle.plane_sweep.proofs.StopsAbove.{stays_above, goes_up, is_below, is_within}
use Rattle.plane_sweep.proofs.rows.RowSweep.next.Goals as goal

pub returns-in_default-clause-end : goal.returns-in_default-clause-end
returns-in_default-clause-end g c = λ edges y above k up.
    let inside = c.self.inside in
    subst (λ (s : RowSweepState). IsRowList edges k s.lines) c.self.view_is
    (stays_above edges y (items inside.front.lines) inside.events
    (subst (IsAbove edges y) (sym c.self.view_is) above) c.in_default.ensures.stop.0 c.in_default.ensures.stop.1 k
    up)

pub pass_stop-requires-clause-y : goal.pass_stop-requires-clause-y
pass_stop-requires-clause-y g c =
    let inside = c.self.inside in
    let edges = c.requires.above.0 in
    let y = c.requires.above.1 in
    is_within edges y (items inside.front.lines) inside.events (subst (IsAbove edges y) (sym c.self.view_is) c.requires.above.2) c.in-Some.stop
    c.in-Some.ensures.stop

pub pass_stop-requires-clause-below : goal.pass_stop-requires-clause-below
pass_stop-requires-clause-below g c =
    let inside = c.self.inside in
    let edges = c.requires.above.0 in
    let y = c.requires.above.1 in (
      edges,
      subst (λ (list : ActiveList). IsBelowStop edges c.in-Some.stop.level.y (items list) inside.events) (sym c.in-Some.ensures.same)
          (is_below edges y (items inside.front.lines) inside.events
          (subst (IsAbove edges y) (sym c.self.view_is) c.requires.above.2) c.in-Some.stop c.in-Some.ensures.stop),
    )

pub returns-clause-up : goal.returns-clause-up
returns-clause-up g c = λ edges y above.
    let fits : FitsSigned w64 c.in-Some.stop.level.y = search rules in
    let inside = c.self.inside in
    let here = subst (IsAbove edges y) (sym c.self.view_is) above in
    let after : RowSweepState = record { lines = items c.pass_stop.new.front.lines; left = c.pass_stop.new.events } in
    let below = subst (λ (list : ActiveList). IsBelowStop edges c.in-Some.stop.level.y (items list) inside.events) (sym c.in-Some.ensures.same)
    (is_below edges y (items inside.front.lines) inside.events here c.in-Some.stop c.in-Some.ensures.stop) in
    simp to_z-of_z
    (subst (λ (s : RowSweepState). GoesUp edges y s after c.in-Some.stop.level.y) c.self.view_is
    (goes_up edges y (items inside.front.lines) inside.events c.in-Some.stop after here c.in-Some.ensures.stop (c.in_ok-pass_stop.ensures.above edges below)))
