use Rattle.std.proofs.Common.{◌≡◌, ℕ, drop, get_or, ap, ◌∙◌, arith}
use Rattle.std.proofs.Math.Seq.{drop-length}
use Rattle.shot_reader.proofs.ForCallers.{first_byte}
use Rattle.shot_repeat.proofs.Progressing.{cut_fault, end_fault}
use Rattle.shot_repeat.proofs.reading.ends_right.Goals as goal

pub returns-then-at-bytes-clause-refused : goal.returns-then-at-bytes-clause-refused
returns-then-at-bytes-clause-refused c = λ records.
    cut_fault records (drop c.args.at c.args.bytes.now) c.args.at (ap (λ (n : ℕ). drop n c.args.bytes.now) c.if-at-bytes.true ∙ drop-length c.args.bytes.now)

pub returns-then-not-ends_at-clause-refused : goal.returns-then-not-ends_at-clause-refused
returns-then-not-ends_at-clause-refused c = λ records.
    let two : get_or (drop c.args.at c.args.bytes.now) 0 0 ≡ 2 = first_byte c.args.bytes.now c.args.at
    ∙ c.requires.stops (omega (arith, c.requires.within, c.if-at-bytes.false)) in
    end_fault records (drop c.args.at c.args.bytes.now) c.args.at two (λ e. let w = c.ends_at.ensures.1 e in absurd (cc))

pub returns-clause-ok : goal.returns-clause-ok
returns-clause-ok c = c.ends_at.ensures.0 c.if-not-ends_at.false
