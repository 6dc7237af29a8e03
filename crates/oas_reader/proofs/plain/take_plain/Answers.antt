use Rattle.std.proofs.Common.{Some}
use Rattle.oas_reader.specs.Plain.{plain}
use Rattle.oas_reader.proofs.PlainLemmas.{plain_looked, plain_unplaced}
use Rattle.oas_reader.proofs.RuleBridges.{values_kept, look_bad, geometry_bad, drafts_added}
use Rattle.oas_reader.proofs.plain.take_plain.Goals as goal

pub returns-in-Err-clause-bad : goal.returns-in-Err-clause-bad
returns-in-Err-clause-bad c = λ bytes wanted past r t.
    look_bad bytes wanted c.args.sorted.now past r plain c.args.fields.now c.args.at c.in-Err.bad t (c.in-Err.ensures.bad bytes)

pub returns-in-Ok-add_rectangle-clause-kept : goal.returns-in-Ok-add_rectangle-clause-kept
returns-in-Ok-add_rectangle-clause-kept c = λ bytes wanted past r t.
    values_kept bytes wanted c.args.sorted.now past r plain c.args.fields.now (Some c.in-Ok.is_wanted) t
    (plain_looked bytes c.args.sorted.now c.args.fields.now c.in-Ok.is_wanted c.in-Ok.ensures.near c.in-Ok.ensures.defined c.in-Ok.ensures.wanting)
    c.in-Ok-add_rectangle.ensures.kept

pub returns-in-Ok-add_rectangle-clause-drafts : goal.returns-in-Ok-add_rectangle-clause-drafts
returns-in-Ok-add_rectangle-clause-drafts c = λ wanted past r t none before.
    drafts_added wanted c.args.sorted.now past c.args.at r plain c.args.fields.now (Some c.in-Ok.is_wanted) c.args.drafts.now c.add_rectangle.new.drafts t
    c.in-Ok.ensures.wanting none before
    (record {
      placings = plain_unplaced c.args.fields.now c.args.drafts.now c.add_rectangle.new.drafts c.in-Ok-add_rectangle.ensures.placings;
      shapes = c.in-Ok-add_rectangle.ensures.shapes;
      begun = c.in-Ok-add_rectangle.ensures.begun;
      whole = c.in-Ok-add_rectangle.ensures.whole;
    })

pub returns-in-Err-add_rectangle-clause-bad : goal.returns-in-Err-add_rectangle-clause-bad
returns-in-Err-add_rectangle-clause-bad c = λ bytes wanted past r t.
    geometry_bad bytes wanted c.args.sorted.now past r plain c.args.fields.now (Some c.in-Ok.is_wanted) c.args.at c.in-Err-add_rectangle.bad t
    (plain_looked bytes c.args.sorted.now c.args.fields.now c.in-Ok.is_wanted c.in-Ok.ensures.near c.in-Ok.ensures.defined c.in-Ok.ensures.wanting)
    c.in-Err-add_rectangle.ensures.broken
