use Rattle.std.proofs.Common.{◌++◌, [], drop, length, refl, sym, ◌∙◌, arith}
use Rattle.shot_repeat.proofs.Repeated.{whole_room, whole_has, whole_left, whole_repeats, whole_by, none_repeats, same_count}
use Rattle.shot_repeat.proofs.refusing.is_whole.Goals as goal

pub returns-then-bytes-at-clause-all : goal.returns-then-bytes-at-clause-all
returns-then-bytes-at-clause-all c = λ w. absurd (omega (arith, whole_room c.args.bytes.now c.args.at w, c.if-bytes-at.true))

pub returns-in_default-clause-all : goal.returns-in_default-clause-all
returns-in_default-clause-all c = λ w.
    let some = c.in_default.ensures.all (length w.numbers) (whole_has c.args.bytes.now c.args.at _ _ w refl refl) in
    absurd (cc)

pub returns-in_default-after_numbers-clause-all : goal.returns-in_default-after_numbers-clause-all
returns-in_default-after_numbers-clause-all c = λ w.
    let same = same_count c.in-Some.count (length w.numbers)
    (c.in-Some.ensures.all (length w.numbers) (whole_has c.args.bytes.now c.args.at _ _ w refl refl)) in
    let some = c.in_default-after_numbers.ensures.there (w.repetition ++ w.after) (whole_left c.args.bytes.now c.args.at c.in-Some.count w same) in
    absurd (cc)

pub returns-then-not-has-clause-yes : goal.returns-then-not-has-clause-yes
returns-then-not-has-clause-yes c = λ yes.
    whole_by c.args.bytes.now c.args.at _ _ c.in-Some.count c.in-Some-after_numbers.next []
    (drop c.in-Some-after_numbers.next c.args.bytes.now) c.if-bytes-at.false refl refl c.if-info-ge128.false
    c.in-Some.ensures.some c.in-Some-after_numbers.ensures.some
    (none_repeats _ (sym c.has.ensures ∙ c.if-not-has.true)) refl

pub returns-clause-all : goal.returns-clause-all
returns-clause-all c = λ w.
    let same = same_count c.in-Some.count (length w.numbers)
    (c.in-Some.ensures.all (length w.numbers) (whole_has c.args.bytes.now c.args.at _ _ w refl refl)) in
    c.repeats_at.ensures.all w.repetition w.after (whole_repeats c.args.bytes.now c.args.at _ w refl (sym c.has.ensures ∙ c.if-not-has.false))
    (c.in-Some-after_numbers.ensures.after (w.repetition ++ w.after) (whole_left c.args.bytes.now c.args.at c.in-Some.count w same))
