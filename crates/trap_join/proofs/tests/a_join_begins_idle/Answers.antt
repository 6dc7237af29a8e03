use Rattle.trap_join.proofs.tests.a_join_begins_idle.Goals as goal

pub begin-requires-clause-balanced : goal.begin-requires-clause-balanced
begin-requires-clause-balanced g c = c.in_ok-edges.ensures c.expect-window.result
