use Rattle.std.proofs.Common.{List}
use Rattle.density_report.specs.Tables.{Table}
use Rattle.density_report.specs.Saying.{AreTables}
use Rattle.density_report.proofs.tabled.have_tables.Given as goal

abbrev pub invariant-loop-output : goal.invariant-loop-output
invariant-loop-output l = record {
  tables : List Table;
  are : AreTables l.fn.plan l.fn.mesh.size l.output tables;
}
