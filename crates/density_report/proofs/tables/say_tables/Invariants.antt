use Rattle.std.proofs.Common.{◌≡◌}
use Rattle.density_report.specs.Rows.{AreTablesPut}
use Rattle.density_report.proofs.tables.say_tables.Given as goal

abbrev pub invariant-loop-output : goal.invariant-loop-output
invariant-loop-output g l = record {
  put : AreTablesPut l.fn.plan l.output l.fn.mesh.size g.D.Depot.tells (g.D.Depot.content l.fn.depot) l.buffer (g.D.Depot.content l.depot);
  uncounted : g.D.Depot.counts l.depot ≡ g.D.Depot.counts l.fn.depot;
}
