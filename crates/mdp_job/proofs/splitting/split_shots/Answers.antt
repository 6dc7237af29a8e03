use Rattle.std.proofs.Common.{inl, inr, Err, ap, subst, sym}
use Rattle.depot.specs.Counts.{Counts, Rose}
use Rattle.field_output.specs.Stripes.{AreStripesWritten, AreStripesPartWritten, AreStripeSums}
use Rattle.mdp_job.specs.FileAnswers.{shot_data}
use Rattle.mdp_job.specs.FieldAnswers.{IsSplitSo}
use Rattle.mdp_job.specs.Parts.{CountsFor}
use Rattle.mdp_job.specs.Splitting.{head_of}
use Rattle.job_report.specs.declared.status.Status.{Status}
use Rattle.mdp_job.proofs.Taken.{fewer_shots}
use Rattle.mdp_job.proofs.Splits.{stripes_ended, stripes_cut, cut_counts}
use Rattle.mdp_job.proofs.splitting.split_shots.Goals as goal

pub write_stripes-requires-clause-few : goal.write_stripes-requires-clause-few
write_stripes-requires-clause-few g c =
    let plain = c.requires.plain in
    rw c.as_slice.ensures (fewer_shots plain.bytes c.args.file.now.unit c.args.file.now.pair c.args.file.now.shots plain.form plain.short)

pub returns-in-Ok-clause-made : goal.returns-in-Ok-clause-made
returns-in-Ok-clause-made g c = λ told.
    let at = g.D.Depot.content in
    let counts = g.D.Depot.counts in
    let e = c.in-Ok.ensures in
    let s = shot_data c.args.file.now in
    let w : AreStripesWritten (at c.args.depot.now) c.args.out.now (head_of s) s.shots c.args.fields.now c.args.span.0
    c.args.span.1 (at c.write_stripes.new.depot) =
    rw (c.head_of.ensures, c.as_slice.ensures) at (e.ok told) in
    let sums : AreStripeSums s.shots c.args.fields.now c.args.span.0 c.args.span.1 c.in-Ok.written = rw c.as_slice.ensures at e.sums in
    stripes_ended (at c.args.depot.now) (at c.write_stripes.new.depot) (at c.say_stripes.new.depot) _ _ _ _
    (λ rose. subst (λ (x : Counts). Rose x.write_faults (counts c.say_stripes.new.depot).write_faults) e.uncounted rose)
    (λ rose. subst (λ (x : Counts). Rose x.refused (counts c.say_stripes.new.depot).refused) e.uncounted rose)
    c.args.fields.now c.args.out.now s c.args.span.0 c.args.span.1 c.requires.stripes c.in-Ok.written
    c.say_stripes.result c.requires.size c.requires.plain.form.legal w sums
    (rw c.deref.ensures.value at (c.say_stripes.ensures.said told))

pub returns-in-Err-clause-made : goal.returns-in-Err-clause-made
returns-in-Err-clause-made g c = λ told.
    let at = g.D.Depot.content in
    let counts = g.D.Depot.counts in
    let e = c.in-Err.ensures in
    let s = shot_data c.args.file.now in
    let cut : AreStripesPartWritten (at c.args.depot.now) c.args.out.now (head_of s) s.shots c.args.fields.now
    c.args.span.0 c.args.span.1 (at c.write_stripes.new.depot) =
    rw (c.head_of.ensures, c.as_slice.ensures) at (e.refused told) in
    subst (λ (t : Status). IsSplitSo (at c.args.depot.now) (at c.write_stripes.new.depot)
    (Rose (counts c.args.depot.now).write_faults (counts c.write_stripes.new.depot).write_faults)
    (Rose (counts c.args.depot.now).refused (counts c.write_stripes.new.depot).refused)
    c.args.fields.now c.args.out.now s t) (sym c.fault_status.ensures)
    (stripes_cut (at c.args.depot.now) (at c.write_stripes.new.depot) _ _ c.args.fields.now c.args.out.now s
    c.args.span.0 c.args.span.1 c.in-Err.bad c.requires.stripes
    (λ f. e.failed (ap Err f))
    (λ f. elim (e.no_memory (ap Err f)) [
      | inl same ↦ inl (ap at same)
      | inr rose ↦ inr rose
    ]) cut)

pub returns-in-Err-clause-counts : goal.returns-in-Err-clause-counts
returns-in-Err-clause-counts g c =
    let counts = g.D.Depot.counts in
    let e = c.in-Err.ensures in
    subst (CountsFor (counts c.args.depot.now) (counts c.write_stripes.new.depot)) (sym c.fault_status.ensures)
    (cut_counts (counts c.args.depot.now) (counts c.write_stripes.new.depot) c.in-Err.bad e.reads
    (λ f. elim (e.no_memory (ap Err f)) [
      | inl same ↦ inl (ap counts same)
      | inr rose ↦ inr rose
    ]))
