use Rattle.std.proofs.Common.{rules, refl, sym}
use Rattle.scan_line.specs.ClippedEdges.{parts_in}
use Rattle.plane_sweep.proofs.SweptParts.{begun}
use Rattle.plane_sweep.proofs.sweep.Sweep.begin_from.Goals as goal

pub returns-clause-given : goal.returns-clause-given
returns-clause-given g c = λ edges balanced events.
    begun _ _ c.requires.rule g.E.EventSource.left edges (parts_in c.args.window edges) c.args.window c.over.result refl balanced c.over.ensures.window
    (record {
      events = rw (sym c.over.ensures.events) at events;
      rows = search rules;
      lines = c.over.ensures.lines;
      waiting = c.over.ensures.waiting;
      from = c.over.ensures.from;
    })
