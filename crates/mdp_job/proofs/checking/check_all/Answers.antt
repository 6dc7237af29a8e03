use Rattle.std.proofs.Common.{List, ap, subst, sym, ◌∙◌, length}
use Rattle.std.specs.Prelude.{codes, IsTrue}
use Rattle.depot.specs.Counts.{Rose}
use Rattle.shot_writer.specs.declared.parts.Sums.{Sums}
use Rattle.deck_plan.specs.Plans.{Planned}
use Rattle.file_check.specs.Files.{AreExactFiles}
use Rattle.mdp_job.specs.Runs.{run_of}
use Rattle.mdp_job.specs.Denoted.{plan_of}
use Rattle.mdp_job.specs.Outputs.{report_of}
use Rattle.mdp_job.specs.Parts.{IsSaidSo, IsOfInput, refuses_output, CountsFor}
use Rattle.mdp_job.specs.Checking.{AreAllExact, IsChecked}
use Rattle.job_report.specs.declared.status.Status.{Status}
use Rattle.mdp_job.proofs.Made.{said_checked, first_told, refused_checked, checked_kind, checked_counts}
use Rattle.mdp_job.proofs.checking.check_all.Goals as goal

pub say_report_on-requires : goal.say_report_on-requires
say_report_on-requires g c =
    let count = c.in-Ok-check_files.ensures.count in
    sym (ap length c.deref.ensures.value ∙ (count ∙ ap (λ (p : Planned). length p.deck.outputs) c.in-Ok.ensures))

pub returns-in-Ok-check_files-clause-checked : goal.returns-in-Ok-check_files-clause-checked
returns-in-Ok-check_files-clause-checked g c = λ told.
    let at = g.D.Depot.content in
    let counts = g.D.Depot.counts in
    let input = c.args.input.now in
    let sums = c.in-Ok-check_files.sums.items in
    let exact : AreAllExact (at c.args.depot.now) input sums =
    subst (λ (p : Planned). AreExactFiles p (at c.args.depot.now) (length p.deck.outputs) sums) c.in-Ok.ensures (c.in-Ok-check_files.ensures.ok told) in
    said_checked (at c.args.depot.now) (at c.check_files.new.depot) (at c.say_report_on.new.depot)
    (counts c.args.depot.now) (counts c.check_files.new.depot) (counts c.say_report_on.new.depot) input sums c.say_report_on.result
    c.in-Ok-check_files.ensures.uncounted (c.in-Ok-check_files.ensures.others told) exact
    (subst (λ (l : List Sums). IsSaidSo (at c.check_files.new.depot) (at c.say_report_on.new.depot)
    (Rose (counts c.check_files.new.depot).write_faults (counts c.say_report_on.new.depot).write_faults)
    (Rose (counts c.check_files.new.depot).refused (counts c.say_report_on.new.depot).refused) (report_of (codes "exact") input l) c.say_report_on.result)
    c.deref.ensures.value (c.say_report_on.ensures.said told))

pub returns-clause-checked : goal.returns-clause-checked
returns-clause-checked g c = λ told.
    let at = g.D.Depot.content in
    let counts = g.D.Depot.counts in
    let rose = Rose (counts c.args.depot.now).read_faults (counts c.check_files.new.depot).read_faults in
    let first = first_told (IsTrue g.D.Depot.tells) _ (plan_of c.args.input.now) (at c.args.depot.now) rose c.in-Err.refusal
    c.in-Ok.ensures told c.in-Err.ensures.refused in
    subst (λ (s : Status). IsChecked
    (run_of (at c.args.depot.now) (at c.check_files.new.depot) (counts c.args.depot.now)
    (counts c.check_files.new.depot)) c.args.input.now s) (sym c.checked_status.ensures)
    (refused_checked (at c.args.depot.now) (at c.check_files.new.depot) (counts c.args.depot.now)
    (counts c.check_files.new.depot) c.args.input.now c.in-Err.refusal (c.in-Err.ensures.others told) first)

pub returns-clause-kind : goal.returns-clause-kind
returns-clause-kind g c = subst (IsOfInput refuses_output) (sym c.checked_status.ensures) (checked_kind c.in-Err.refusal)

pub returns-clause-counts : goal.returns-clause-counts
returns-clause-counts g c =
    subst (λ (s : Status). CountsFor (g.D.Depot.counts c.args.depot.now) (g.D.Depot.counts c.check_files.new.depot) s) (sym c.checked_status.ensures)
    (checked_counts (g.D.Depot.counts c.args.depot.now) (g.D.Depot.counts c.check_files.new.depot) c.in-Err.refusal c.in-Err.ensures.counts)
