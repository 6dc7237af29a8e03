use Rattle.std.proofs.Common.{arith}
use Rattle.shot_repeat.specs.Numbers.{NumbersAt}
use Rattle.shot_repeat.proofs.Repeated.{delta_of, dimension_left, delta_left, delta_odd, delta_some, found, repeated}
use Rattle.shot_repeat.proofs.refusing.repeats_at.Goals as goal

pub returns-in_default-clause-all : goal.returns-in_default-clause-all
returns-in_default-clause-all c = λ rep after i e.
    let some = c.in_default.ensures.there (delta_of i after) (dimension_left c.args.bytes.now c.args.at rep after i e) in
    absurd (cc)

pub returns-then-bytes-delta-clause-all : goal.returns-then-bytes-delta-clause-all
returns-then-bytes-delta-clause-all c = λ rep after i e.
    let at = c.in-Some.ensures.after (delta_of i after) (dimension_left c.args.bytes.now c.args.at rep after i e) in
    absurd (delta_some c.args.bytes.now c.in-Some.delta rep after i at (omega (arith, c.if-bytes-delta.true)))

pub returns-then-bytes-delta-ne1-clause-all : goal.returns-then-bytes-delta-ne1-clause-all
returns-then-bytes-delta-ne1-clause-all c = λ rep after i e.
    let at = c.in-Some.ensures.after (delta_of i after) (dimension_left c.args.bytes.now c.args.at rep after i e) in
    let odd = delta_odd c.args.bytes.now c.in-Some.delta rep after i at in
    absurd (omega (arith, odd, c.if-bytes-delta-ne1.true))

pub returns-clause-yes : goal.returns-clause-yes
returns-clause-yes c = λ yes.
    let some = found (λ next. NumbersAt c.args.bytes.now c.in-Some.delta 2 next) c.after_numbers-2.result (cc) c.after_numbers-2.ensures.some in
    let r = repeated c.args.bytes.now c.args.at c.in-Some.delta some.value (omega (arith, c.if-bytes-at.false))
    (omega (arith, c.if-bytes-at-ne9.false)) c.in-Some.ensures.some some.has
    (omega (arith, c.if-bytes-delta-ne1.false)) in
    (r.repetition, r.after, r.is, r.text)

pub returns-clause-all : goal.returns-clause-all
returns-clause-all c = λ rep after i e.
    let at = c.in-Some.ensures.after (delta_of i after) (dimension_left c.args.bytes.now c.args.at rep after i e) in
    let there = c.after_numbers-2.ensures.there after (delta_left c.args.bytes.now c.in-Some.delta rep after i at) in
    cc
