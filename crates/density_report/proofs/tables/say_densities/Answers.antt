use Rattle.std.proofs.Common.{ℤ, List, length, FitsSigned, w64, rules, subst}
use Rattle.std.proofs.lemmas.Int.{to_z-of_z}
use Rattle.std.proofs.lemmas.Result.{on_err_weaker}
use Rattle.density_report.specs.Tables.{Table}
use Rattle.density_report.specs.Saying.{AreTables}
use Rattle.density_report.specs.Rows.{IsBeginningSaid}
use Rattle.density_report.proofs.BeginLemmas.{cut_short}
use Rattle.density_report.proofs.tables.say_densities.Goals as goal

pub returns-clause-refused : goal.returns-clause-refused
returns-clause-refused g c =
    let at = g.D.Depot.content in
    let plan = c.args.plan.now in
    let fits : FitsSigned w64 c.args.size = search rules in
    let same = to_z-of_z w64 c.args.size fits in
    let all = subst (λ (z : ℤ). (tables : List Table) × AreTables plan z (length plan.deck.outputs) tables) same c.have_tables.ensures in
    on_err_weaker c.say_tables.result
    (λ cut told. cut_short plan c.args.size all.0 (at c.args.depot.now) (at c.say_tables.new.depot) c.requires.size all.1
    (subst (λ (z : ℤ). IsBeginningSaid plan z (at c.args.depot.now) (at c.say_tables.new.depot)) same (cut told))) c.say_tables.ensures.refused
