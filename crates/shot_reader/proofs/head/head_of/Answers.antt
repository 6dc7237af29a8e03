use Rattle.std.proofs.Common.{◌++◌, arith, ap, sym, ◌∙◌}
use Rattle.oas_lex.specs.ShotText.{head}
use Rattle.shot_reader.proofs.Places.{unit_there}
use Rattle.shot_reader.proofs.head.head_of.Goals as goal
use Rattle.shot_reader.proofs.head.head_of.Goals.{then-unit-lt-LEAST-via-then-unit-lt-LEAST}
use Rattle.shot_reader.proofs.head.head_of.Goals.{then-unit-lt-LEAST-via-else-unit-lt-LEAST+then-unit-gt-MOST}
use Rattle.shot_reader.proofs.head.head_of.Goals.{then-unit-lt-LEAST-via-else-unit-lt-LEAST+else-unit-gt-MOST+then-unit-ne0}

pub returns-then-unit-lt-LEAST-clause-read : goal.returns-then-unit-lt-LEAST-clause-read
returns-then-unit-lt-LEAST-clause-read c = λ unit after h e.
    let read = c.unsigned_at-unit.ensures.read unit _ (omega (arith, h.few)) (omega (arith, c.min.ensures))
    (unit_there unit c.min.result c.args.bytes.now after c.min.ensures e) in
    elim c.then-unit-lt-LEAST.branch [
      | then-unit-lt-LEAST-via-then-unit-lt-LEAST w ↦ absurd (omega (arith, read.0, h.some, w.if-unit-lt-LEAST.true))
      | then-unit-lt-LEAST-via-else-unit-lt-LEAST+then-unit-gt-MOST w ↦ absurd (omega (arith, read.0, h.few, w.if-unit-gt-MOST.true))
      | then-unit-lt-LEAST-via-else-unit-lt-LEAST+else-unit-gt-MOST+then-unit-ne0 w ↦ absurd (omega (arith, read.0, h.even, w.if-unit-ne0.true))
    ]

pub returns-then-not-stands_at-clause-read : goal.returns-then-not-stands_at-clause-read
returns-then-not-stands_at-clause-read c = λ unit after h e.
    let read = c.unsigned_at-unit.ensures.read unit _ (omega (arith, h.few)) (omega (arith, c.min.ensures))
    (unit_there unit c.min.result c.args.bytes.now after c.min.ensures e) in
    let text = c.bytes.ensures.value ∙ (c.head_text-spelled.ensures ∙ ap head read.0) in
    let stands = c.stands_at.ensures.all after (e ∙ ap (λ t. t ++ after) (sym text)) in
    absurd (cc)
