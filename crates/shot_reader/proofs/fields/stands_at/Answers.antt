use Rattle.std.proofs.Common.{◌++◌, length, drop, ap, ◌∙◌}
use Rattle.std.proofs.lemmas.List.{drop-drop}
use Rattle.oas_lex.proofs.ForCallers.{rest_is}
use Rattle.shot_reader.proofs.Places.{stands_by, begins_by}
use Rattle.shot_reader.proofs.fields.stands_at.Goals as goal

pub returns-clause-stands : goal.returns-clause-stands
returns-clause-stands c = λ yes.
    let value = rw (rest_is c.args.bytes.now c.args.at) at c.starts_with.ensures.value in
    stands_by (drop c.args.at c.args.bytes.now) c.args.text.now c.starts_with.result value yes
    ∙ ap (λ l. c.args.text.now ++ l) (drop-drop (length c.args.text.now) c.args.at c.args.bytes.now)

pub returns-clause-all : goal.returns-clause-all
returns-clause-all c = λ after e.
    let value = rw (rest_is c.args.bytes.now c.args.at) at c.starts_with.ensures.value in
    begins_by (drop c.args.at c.args.bytes.now) c.args.text.now after c.starts_with.result value e
