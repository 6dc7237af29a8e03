use Rattle.std.proofs.Common.{Some, refl}
use Rattle.oas_reader.specs.Items.{records_in}
use Rattle.oas_reader.specs.declared.bodies.Body.TheVariants as bodies
use Rattle.oas_reader.proofs.TakeLemmas.{silent}
use Rattle.oas_reader.proofs.TakenLemmas.{counts_on, body_kept, bad_value}
use Rattle.oas_reader.proofs.reading.Reader.take_box.Goals as goal

pub returns-in-Err-clause-bad : goal.returns-in-Err-clause-bad
returns-in-Err-clause-bad c = λ wanted past r taken names.
    bad_value c.args.bytes.now wanted past c.args.at r c.in-Err.bad (c.in-Err.ensures.bad c.args.bytes.now wanted (records_in past) r taken)

pub returns-in-Ok-clause-drafts : goal.returns-in-Ok-clause-drafts
returns-in-Ok-clause-drafts c = λ wanted past r taken drafts.
    let none = silent c.args.bytes.now c.args.at bodies.Rectangle refl in
    c.in-Ok.ensures.drafts wanted past r taken (none.begins r taken.looked_at.body) drafts

pub returns-in-Ok-clause-names : goal.returns-in-Ok-clause-names
returns-in-Ok-clause-names c = λ past r e are.
    let none = silent c.args.bytes.now c.args.at bodies.Rectangle refl in none.names past r c.args.self.now.names e are

pub returns-in-Ok-clause-counts : goal.returns-in-Ok-clause-counts
returns-in-Ok-clause-counts c = λ wanted past r taken counts.
    counts_on wanted c.args.bytes.now past r (Some c.in-Ok.is_wanted) bodies.Rectangle c.args.self.now.counts c.count_shape.new.counts
    c.count_shape.ensures (c.in-Ok.ensures.wanting wanted past r taken) taken.looked_at.body counts
    (c.in-Ok.ensures.kept c.args.bytes.now wanted past r taken)

pub returns-in-Ok-clause-kept : goal.returns-in-Ok-clause-kept
returns-in-Ok-clause-kept c = λ wanted past r taken names.
    let none = silent c.args.bytes.now c.args.at bodies.Rectangle refl in
    body_kept c.args.bytes.now wanted past r (c.in-Ok.ensures.kept c.args.bytes.now wanted (records_in past) r taken)
    (none.own r taken.looked_at.body) (none.new past r taken.looked_at.body)

pub returns-in-Ok-clause-within : goal.returns-in-Ok-clause-within
returns-in-Ok-clause-within c = λ before. c.in-Ok.ensures.within c.args.bytes.now before
