use Rattle.oas_reader.proofs.TakenLemmas.{drafts_on, counts_on, body_kept, bad_value, bad_name}
use Rattle.oas_reader.specs.Items.{records_in}
use Rattle.oas_reader.proofs.reading.Reader.take_body.Goals as goal

pub returns-in-Err-clause-bad : goal.returns-in-Err-clause-bad
returns-in-Err-clause-bad c = λ wanted past r taken names.
    bad_value c.args.bytes.now wanted past c.args.at r c.in-Err.bad (c.in-Err.ensures.bad wanted (records_in past) r taken)

pub returns-in-Err-named-clause-bad : goal.returns-in-Err-named-clause-bad
returns-in-Err-named-clause-bad c = λ wanted past r taken names.
    bad_name c.args.bytes.now wanted past c.args.at r c.in-Err-named.bad (c.in-Ok.ensures.kept wanted (records_in past) r taken)
    (c.in-Err-named.ensures.bad past r taken.looked_at.body names)

pub returns-clause-drafts : goal.returns-clause-drafts
returns-clause-drafts c = λ wanted past r taken drafts.
    drafts_on wanted past c.args.at r c.args.self.now.drafts c.take_values-valued.new.drafts c.take_names-named.new.drafts
    (λ no. c.in-Ok.ensures.drafts wanted past r taken no drafts)
    (λ no. c.in-Ok-named.ensures.drafts r taken.looked_at.body no)
    (λ yes. c.in-Ok.ensures.cell wanted (records_in past) r taken yes)
    (λ yes before. c.in-Ok-named.ensures.cell wanted past r taken.looked_at.body yes before)
    drafts

pub returns-clause-counts : goal.returns-clause-counts
returns-clause-counts c = λ wanted past r taken counts.
    counts_on wanted c.args.bytes.now past r c.in-Ok.wanted c.args.outline.body c.args.self.now.counts c.with-self.result c.with-self.ensures
    (c.in-Ok.ensures.wanting wanted past r taken) taken.looked_at.body counts (c.in-Ok.ensures.kept wanted past r taken)

pub returns-clause-kept : goal.returns-clause-kept
returns-clause-kept c = λ wanted past r taken names.
    body_kept c.args.bytes.now wanted past r (c.in-Ok.ensures.kept wanted (records_in past) r taken)
    (c.in-Ok-named.ensures.own r taken.looked_at.body) (c.in-Ok-named.ensures.new past r taken.looked_at.body names)
