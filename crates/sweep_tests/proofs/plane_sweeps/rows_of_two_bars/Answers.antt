use Rattle.sweep_tests.proofs.plane_sweeps.rows_of_two_bars.Goals as goal

pub next-requires-clause-above : goal.next-requires-clause-above
next-requires-clause-above g c = (_, c.in_ok-sweep.ensures.0, c.in_ok-sweep.ensures.1)
