use Rattle.std.proofs.Common.{List, subst, length}
use Rattle.depot.specs.Counts.{Rose}
use Rattle.depot.proofs.ForCallers.{Rose-later}
use Rattle.shot_writer.specs.declared.parts.Sums.{Sums}
use Rattle.shot_output.specs.Files.{AreWritten}
use Rattle.deck_plan.specs.Plans.{Planned}
use Rattle.mdp_job.specs.Outputs.{report_on}
use Rattle.mdp_job.specs.Parts.{IsSaidSo, IsAllWritten}
use Rattle.mdp_job.proofs.Made.{said_made}
use Rattle.mdp_job.proofs.fracturing.write_all.Goals as goal

pub returns-in-Ok-write_outputs-clause-made : goal.returns-in-Ok-write_outputs-clause-made
returns-in-Ok-write_outputs-clause-made g c = λ told.
    let at = g.D.Depot.content in
    let counts = g.D.Depot.counts in
    let input = c.args.input.now in
    let sums = c.in-Ok-write_outputs.sums.items in
    let written : IsAllWritten g.D.Depot.tells (at c.args.depot.now) (at c.write_outputs.new.depot) input sums =
    subst (λ (p : Planned). AreWritten p (length p.deck.outputs) g.D.Depot.tells (at c.args.depot.now)
    (at c.write_outputs.new.depot) sums) c.in-Ok.ensures c.in-Ok-write_outputs.ensures.ok in
    let later = c.in-Ok-write_outputs.ensures.counts.counted in
    said_made g.D.Depot.tells (at c.args.depot.now) (at c.write_outputs.new.depot) (at c.say_report_on.new.depot) _ _ _ _ input sums c.say_report_on.result
    (λ rose. Rose-later (counts c.args.depot.now).write_faults (counts c.write_outputs.new.depot).write_faults
    (counts c.say_report_on.new.depot).write_faults later.write_faults rose)
    (λ rose. Rose-later (counts c.args.depot.now).refused (counts c.write_outputs.new.depot).refused
    (counts c.say_report_on.new.depot).refused later.refused rose)
    written (subst (λ (l : List Sums). IsSaidSo (at c.write_outputs.new.depot) (at c.say_report_on.new.depot)
    (Rose (counts c.write_outputs.new.depot).write_faults (counts c.say_report_on.new.depot).write_faults)
    (Rose (counts c.write_outputs.new.depot).refused (counts c.say_report_on.new.depot).refused) (report_on input l)
    c.say_report_on.result) c.deref.ensures.value (c.say_report_on.ensures.said told))
