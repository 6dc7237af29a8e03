use Rattle.std.proofs.Common.{◌≡◌, ℕ, List, Err, length, ap, subst, refl}
use Rattle.depot.specs.Content.{IsPartSaid}
use Rattle.job_report.specs.Report.{report}
use Rattle.mdp_job.specs.Outputs.{report_of}
use Rattle.mdp_job.proofs.Made.{said_fault}
use Rattle.mdp_job.proofs.reporting.say_report_on.Goals as goal

pub returns-in-Err-clause-said : goal.returns-in-Err-clause-said
returns-in-Err-clause-said g c = λ told.
    let at = g.D.Depot.content in
    let text : report c.args.input.now.format (length c.cells.result.now) c.counts-counts.result c.args.word.now
    c.as_slice-outputs.result.now c.args.sums.now ≡ report_of c.args.word.now c.args.input.now c.args.sums.now =
    rw (c.cells.ensures.value, c.counts-counts.ensures, c.as_slice-outputs.ensures) refl in
    said_fault (at c.args.depot.now) (at c.say_report.new.depot) _ _
    (report_of c.args.word.now c.args.input.now c.args.sums.now) c.in-Err.bad c.fault_status.result c.fault_status.ensures
    (subst (λ (t : List ℕ). IsPartSaid (at c.args.depot.now) t (at c.say_report.new.depot)) text
    (c.in-Err.ensures.content.refused told)) (λ e. c.in-Err.ensures.counts.failed (ap Err e)) (λ e. c.in-Err.ensures.counts.no_memory (ap Err e))
