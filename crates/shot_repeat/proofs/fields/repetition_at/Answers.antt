use Rattle.std.proofs.Common.{◌+◌, ◌∷◌, ◌++◌, ℕ, Some, length, drop, ap, sym, ◌∙◌, arith}
use Rattle.std.proofs.lemmas.List.{drop-drop, length-drop, drop_more}
use Rattle.shot_reader.proofs.ForCallers.{byte_is}
use Rattle.shot_repeat.specs.Records.{steps_text}
use Rattle.shot_repeat.proofs.Standing.{some_repetition}
use Rattle.shot_repeat.proofs.fields.repetition_at.Goals as goal

pub returns-then-bytes-at-clause-read : goal.returns-then-bytes-at-clause-read
returns-then-bytes-at-clause-read c = λ field after narrow there h e.
    let some = some_repetition field (drop c.args.at c.args.bytes.now) after narrow (sym c.if-not-is_there.false ∙ there) e in
    absurd (omega (arith, ap length some.3, length-drop c.args.at c.args.bytes.now, c.if-bytes-at.true))

pub returns-then-bytes-at-ne-KIND-clause-read : goal.returns-then-bytes-at-ne-KIND-clause-read
returns-then-bytes-at-ne-KIND-clause-read c = λ field after narrow there h e.
    let some = some_repetition field (drop c.args.at c.args.bytes.now) after narrow (sym c.if-not-is_there.false ∙ there) e in
    absurd (c.if-bytes-at-ne-KIND.true (byte_is c.args.bytes.now (steps_text some.0 ++ after) c.args.at 9 some.3))

pub returns-clause-spelled : goal.returns-clause-spelled
returns-clause-spelled c = λ inside.
    let steps = c.steps_at-next.ensures.spelled inside in (
      omega (arith, steps.0),
      drop_more c.args.bytes.now c.args.at 0 (omega (arith, c.if-bytes-at.false))
          ∙ (ap (λ (x : ℕ). x ∷ drop (c.args.at + 1) c.args.bytes.now) c.if-bytes-at-ne-KIND.false ∙ ap
          (λ t. 9 ∷ t) steps.1),
    )

pub returns-clause-read : goal.returns-clause-read
returns-clause-read c = λ field after narrow there h e.
    let some = some_repetition field (drop c.args.at c.args.bytes.now) after narrow (sym c.if-not-is_there.false ∙ there) e in
    let own = c.steps_at-next.ensures.read some.0 after some.1 (omega (arith, c.if-bytes-at.false))
    (sym (drop-drop 1 c.args.at c.args.bytes.now) ∙ ap (drop 1) some.3) in
    (ap Some own.0 ∙ sym some.2, own.1, own.2)
