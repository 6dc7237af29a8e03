use Rattle.std.proofs.Common.{ℤ, List, sym, subst}
use Rattle.active_lines.specs.declared.item.ActiveLine.{ActiveLine}
use Rattle.plane_sweep.specs.Stops.{IsAboveStop}
use Rattle.plane_sweep.proofs.StopsAbove.{below_all}
use Rattle.plane_sweep.proofs.rows.RowSweep.begin.Goals as goal

pub returns : goal.returns
returns c =
    let edges = c.args.edges.now in
    let events = c.in_ok-events.events in
    subst (λ (ls : List ActiveLine). (y : ℤ) × IsAboveStop edges y ls events) (sym c.new.ensures.lines)
    (below_all edges events c.know_edges.ensures c.in_ok-events.ensures.permutation c.in_ok-events.ensures.ascend)
