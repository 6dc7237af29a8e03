use Rattle.std.proofs.Common.{ℤ, pos, Err, FitsSigned, w64, rules, ap, subst, sym, ◌∙◌, arith}
use Rattle.std.proofs.lemmas.Int.{ints, to_z-of_z}
use Rattle.depot.specs.Counts.{Rose}
use Rattle.density_map.specs.Windows.{IsWindowSize}
use Rattle.density_report.specs.Saying.{IsSaid, IsDensityCutShort}
use Rattle.mdp_job.specs.Densities.{AreCounted}
use Rattle.mdp_job.proofs.DensityRows.{counted_done, counted_cut}
use Rattle.job_report.specs.declared.status.Status.{Status}
use Rattle.mdp_job.proofs.mapping.count_all.Goals as goal

pub returns-in-Ok-say_densities-clause-counted_so : goal.returns-in-Ok-say_densities-clause-counted_so
returns-in-Ok-say_densities-clause-counted_so g c = λ told.
    let at = g.D.Depot.content in
    let counts = g.D.Depot.counts in
    let sized : IsWindowSize (pos c.args.size) =
    record { low = omega (arith, ints, c.requires.size.0); high = omega (arith, ints, c.requires.size.1) } in
    let fits : FitsSigned w64 c.from.result = search rules in
    let said : IsSaid c.in-Ok.plan (pos c.args.size) g.D.Depot.tells (at c.args.depot.now) (at c.say_densities.new.depot) =
    subst (λ (z : ℤ). IsSaid c.in-Ok.plan z g.D.Depot.tells (at c.args.depot.now) (at c.say_densities.new.depot))
    (to_z-of_z w64 c.from.result fits ∙ c.from.ensures) c.in-Ok-say_densities.ensures.ok in
    counted_done c.in-Ok.plan (pos c.args.size) g.D.Depot.tells (at c.args.depot.now) (at c.say_densities.new.depot)
    (Rose (counts c.args.depot.now).write_faults (counts c.say_densities.new.depot).write_faults) c.args.input.now
    c.in-Ok.ensures sized told said

pub returns-clause-counted_so : goal.returns-clause-counted_so
returns-clause-counted_so g c = λ told.
    let at = g.D.Depot.content in
    let counts = g.D.Depot.counts in
    let sized : IsWindowSize (pos c.args.size) =
    record { low = omega (arith, ints, c.requires.size.0); high = omega (arith, ints, c.requires.size.1) } in
    let fits : FitsSigned w64 c.from.result = search rules in
    let cut : IsDensityCutShort c.in-Ok.plan (pos c.args.size) (at c.args.depot.now) (at c.say_densities.new.depot) =
    subst (λ (z : ℤ). IsDensityCutShort c.in-Ok.plan z (at c.args.depot.now) (at c.say_densities.new.depot))
    (to_z-of_z w64 c.from.result fits ∙ c.from.ensures) (c.in-Err.ensures.refused told) in
    subst (λ (s : Status). AreCounted (at c.args.depot.now) (at c.say_densities.new.depot)
    (Rose (counts c.args.depot.now).write_faults (counts c.say_densities.new.depot).write_faults) (pos c.args.size)
    c.args.input.now s) (sym c.fault_status.ensures)
    (counted_cut c.in-Ok.plan (pos c.args.size) (at c.args.depot.now) (at c.say_densities.new.depot) _ c.args.input.now
    c.in-Err.bad c.in-Ok.ensures sized (λ e. c.in-Err.ensures.counts.failed (ap Err e)) cut)
