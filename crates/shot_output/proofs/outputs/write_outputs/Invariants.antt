use Rattle.std.proofs.Common.{◌≡◌}
use Rattle.shot_output.specs.Files.{AreWritten}
use Rattle.shot_output.proofs.outputs.write_outputs.Given as goal

abbrev pub invariant-loop-output : goal.invariant-loop-output
invariant-loop-output g l = record {
  written : AreWritten l.fn.plan l.output g.D.Depot.tells (g.D.Depot.content l.fn.depot) (g.D.Depot.content l.depot) l.all.items;
  uncounted : g.D.Depot.counts l.depot ≡ g.D.Depot.counts l.fn.depot;
}
