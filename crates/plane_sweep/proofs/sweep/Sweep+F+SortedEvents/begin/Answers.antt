use Rattle.plane_sweep.proofs.sweep.Sweep+F+SortedEvents.begin.Goals as goal

pub returns-clause-given : goal.returns-clause-given
returns-clause-given g c =
    c.begin_from.ensures.given c.args.edges.items c.requires.balanced (rw c.as_slice.ensures.value at c.in_ok-events.ensures)
