use Rattle.std.proofs.Common.{◌+◌, ◌*◌, ◌%◌, arith, refl, inl, inr}
use Rattle.oas_lex.specs.ShotText.{IsUnit}
use Rattle.shot_reader.proofs.Nearest.{near_zero, near_odd, near_one, near_low, near_two, near_short, near_whole}
use Rattle.shot_reader.proofs.head.nearest_unit.Goals as goal

pub returns-then-first-eq0-clause-nearest : goal.returns-then-first-eq0-clause-nearest
returns-then-first-eq0-clause-nearest c = λ v n h k.
    near_zero c.args.bytes.now c.byte_or_zero-first.result 2 v n c.byte_or_zero-first.ensures.value h
    c.if-first-eq0.true k

pub returns-then-first-ne0-clause-nearest : goal.returns-then-first-ne0-clause-nearest
returns-then-first-ne0-clause-nearest c = λ v n h k.
    near_odd c.args.bytes.now c.byte_or_zero-first.result 2 v n c.byte_or_zero-first.ensures.value h (omega arith) k

pub returns-then-first-lt128-clause-nearest : goal.returns-then-first-lt128-clause-nearest
returns-then-first-lt128-clause-nearest c = λ v n h k.
    near_one c.args.bytes.now c.byte_or_zero-first.result v n c.byte_or_zero-first.ensures.value h (omega arith) k

pub returns-then-second-eq0-clause-nearest : goal.returns-then-second-eq0-clause-nearest
returns-then-second-eq0-clause-nearest c = λ v n h k.
    let own : IsUnit c.byte_or_zero-first.result = record { even = omega arith; some = omega arith; few = omega arith } in
    near_low c.args.bytes.now c.byte_or_zero-first.result c.byte_or_zero-second.result v n
    c.byte_or_zero-first.ensures.value c.byte_or_zero-second.ensures.value c.byte_or_zero-first.ensures.byte own h
    (omega arith) (omega arith) k

pub returns-then-second-lt128-clause-nearest : goal.returns-then-second-lt128-clause-nearest
returns-then-second-lt128-clause-nearest c = λ v n h k.
    let own : IsUnit (c.byte_or_zero-first.result % 128 + c.byte_or_zero-second.result * 128) =
    record { even = omega arith; some = omega arith; few = omega arith } in
    near_two c.args.bytes.now c.byte_or_zero-first.result c.byte_or_zero-second.result _ v n
    c.byte_or_zero-first.ensures.value c.byte_or_zero-second.ensures.value c.byte_or_zero-first.ensures.byte own h
    (omega arith) (omega arith) (omega arith) refl k

pub returns-then-third-eq0-clause-nearest : goal.returns-then-third-eq0-clause-nearest
returns-then-third-eq0-clause-nearest c = λ v n h k.
    let own : IsUnit (c.byte_or_zero-first.result % 128 + c.byte_or_zero-second.result % 128 * 128 + 16384) =
    record { even = omega arith; some = omega arith; few = omega arith } in
    near_short c.args.bytes.now c.byte_or_zero-first.result c.byte_or_zero-second.result c.byte_or_zero-third.result _
    v n c.byte_or_zero-first.ensures.value c.byte_or_zero-second.ensures.value c.byte_or_zero-third.ensures.value
    c.byte_or_zero-first.ensures.byte c.byte_or_zero-second.ensures.byte own h (omega arith) (omega arith) refl
    (inl (omega arith)) k

pub returns-then-low-third-gt-MOST-clause-nearest : goal.returns-then-low-third-gt-MOST-clause-nearest
returns-then-low-third-gt-MOST-clause-nearest c = λ v n h k.
    let own : IsUnit (c.byte_or_zero-first.result % 128 + c.byte_or_zero-second.result % 128 * 128 + 16384) =
    record { even = omega arith; some = omega arith; few = omega arith } in
    near_short c.args.bytes.now c.byte_or_zero-first.result c.byte_or_zero-second.result c.byte_or_zero-third.result _
    v n c.byte_or_zero-first.ensures.value c.byte_or_zero-second.ensures.value c.byte_or_zero-third.ensures.value
    c.byte_or_zero-first.ensures.byte c.byte_or_zero-second.ensures.byte own h (omega arith) (omega arith) refl
    (inr (omega arith)) k

pub returns-clause-nearest : goal.returns-clause-nearest
returns-clause-nearest c = λ v n h k.
    let own : IsUnit (c.byte_or_zero-first.result % 128 + c.byte_or_zero-second.result % 128 * 128
    + c.byte_or_zero-third.result * 16384) =
    record { even = omega arith; some = omega arith; few = omega arith } in
    near_whole c.args.bytes.now c.byte_or_zero-first.result c.byte_or_zero-second.result c.byte_or_zero-third.result _
    v n c.byte_or_zero-first.ensures.value c.byte_or_zero-second.ensures.value c.byte_or_zero-third.ensures.value
    c.byte_or_zero-first.ensures.byte c.byte_or_zero-second.ensures.byte own h (omega arith) (omega arith)
    (omega arith) refl k
