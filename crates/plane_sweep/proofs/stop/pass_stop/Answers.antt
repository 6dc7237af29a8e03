use Rattle.std.proofs.Common.{List, ◌++◌, ap, sym, subst, ◌∙◌}
use Rattle.half_grid.specs.Trapezoids.{Trapezoid}
use Rattle.active_lines.specs.ActiveLists.{ActiveList, items}
use Rattle.plane_sweep.specs.Stops.{IsAboveStop}
use Rattle.plane_sweep.specs.StopSettles.{SettlesRows}
use Rattle.plane_sweep.proofs.stop.pass_stop.Goals as goal

pub returns-clause-above : goal.returns-clause-above
returns-clause-above g c = λ edges below.
    subst (λ (list : ActiveList). IsAboveStop edges c.args.level.y (items list) (g.E.EventSource.left c.pass_points.new.events))
    (sym c.in_ok-give.ensures.lines)
    (c.in_ok-pass_points.ensures.above edges below)

pub returns-clause-settles : goal.returns-clause-settles
returns-clause-settles g c =
    let rows = subst (λ (list : ActiveList). SettlesRows (λ a b r. g.F.Fn.post c.args.rule.now (a, (b, tt)) r) c.args.level.y (items c.args.front.now.lines)
    (items list) c.pass_points.new.front.ended.items) (sym c.in_ok-give.ensures.lines) (c.in_ok-pass_points.ensures.settles c.clear.ensures.items) in
    λ takes test nothing shut shut_above opened shots. (
      c.pass_points.new.front.ended.items,
      c.in_ok-give.ensures.waiting ∙ ap (λ (ws : List Trapezoid). ws ++ c.pass_points.new.front.ended.items) c.in_ok-pass_points.ensures.waiting,
      rows takes test nothing shut shut_above opened shots,
    )
