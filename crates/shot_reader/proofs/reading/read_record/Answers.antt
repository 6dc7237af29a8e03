use Rattle.std.proofs.Common.{◌++◌, drop, ap, sym, ◌∙◌, arith}
use Rattle.oas_lex.specs.ShotText.{text_of}
use Rattle.oas_lex.proofs.ForCallers.{spelling_is}
use Rattle.shot_reader.proofs.Records.{other_pair}
use Rattle.shot_reader.proofs.reading.read_record.Goals as goal

pub returns-then-not-agrees-clause-refused : goal.returns-then-not-agrees-clause-refused
returns-then-not-agrees-clause-refused c =
    let spelled = c.fields_at-next.ensures.spelled (omega (arith, c.if-bytes-next.false)) in
    other_pair c.args.first (drop c.args.at c.args.bytes.now) _ c.args.at c.fields_at-next.result.0 c.fields_at-next.ensures.narrow spelled.1
    (λ g x h e. (c.fields_at-next.ensures.read g x h e).0) (λ g. let yes = c.agrees.ensures.1 g in absurd (cc))

pub returns-in-Some-clause-found : goal.returns-in-Some-clause-found
returns-in-Some-clause-found c =
    let spelled = c.fields_at-next.ensures.spelled (omega (arith, c.if-bytes-next.false)) in
    let f = c.fields_at-next.result.0 in
    spelled.1 ∙ ap (λ t. t ++ drop c.fields_at-next.result.1 c.args.bytes.now)
    (ap text_of c.in-Some.ensures.some.1 ∙ sym (spelling_is f.layer f.datatype c.in-Some.shot))
