use Rattle.std.proofs.Common.{◌≡◌, ◌+◌, ◌<◌, ◌≤◌, ◌*◌, ◌^◌, drop, refl, arith}
use Rattle.oas_lex.specs.Numbers.{EndsFirst, IsWide}
use Rattle.oas_lex.proofs.Reading.{Summed, rest_is, wide_by, full_by, more_by, sum_below, on_more, has_unsigned}
use Rattle.oas_lex.proofs.Reading.{ends_first, has_not_wide, ends_not_has, ends_not_wide, has_one}
use Rattle.oas_lex.proofs.numbers.long_unsigned.Goals as goal
use Rattle.oas_lex.proofs.numbers.long_unsigned.Goals.{then-weight+else-group-ne0, else-weight}

-- a group that isn't zero where the weight is full

wide_there : (c : goal.Then-group-ne0) → IsWide c.args.bytes.now c.args.at
wide_there c =
    let whole = rest_is c.args.bytes.now c.args.at in
    let test = rw whole at c.loop-index-test.true in
    let group = rw whole at c.from-group.ensures in
    wide_by c.args.bytes.now c.args.at c.loop-index.index c.loop-index.value c.loop-index.weight c.from-group.result
    c.loop-index.invariant.sum c.loop-index.invariant.goes_on test group c.if-weight.true c.if-group-ne0.true

pub returns-then-group-ne0-clause-read : goal.returns-then-group-ne0-clause-read
returns-then-group-ne0-clause-read c = λ n next h. absurd (has_not_wide c.args.bytes.now c.args.at n next h (wide_there c))

pub returns-then-group-ne0-clause-short : goal.returns-then-group-ne0-clause-short
returns-then-group-ne0-clause-short c = (λ e. absurd (cc), λ e. absurd (ends_not_wide c.args.bytes.now c.args.at e (wide_there c)))

pub returns-then-group-ne0-clause-wide : goal.returns-then-group-ne0-clause-wide
returns-then-group-ne0-clause-wide c = (λ e. wide_there c, λ w. refl)

-- a group that weighs less

small_there : (c : goal.Else-weight)
    → (c.loop-index.value + c.from-group.result * c.loop-index.weight < 128 * c.loop-index.weight)
    × (128 * c.loop-index.weight ≤ 2 ^ 63)
small_there c =
    let group : c.from-group.result < 128 = omega (arith, c.from-group.ensures) in
    sum_below (drop c.args.at c.args.bytes.now) c.loop-index.index c.loop-index.value c.loop-index.weight
    c.from-group.result c.loop-index.invariant.sum c.if-weight.false group

pub overflow_mul-value : goal.overflow_mul-value
overflow_mul-value c = let small = small_there c in omega arith

pub overflow_add-value : goal.overflow_add-value
overflow_add-value c = let small = small_there c in omega arith

pub overflow_mul-weight : goal.overflow_mul-weight
overflow_mul-weight c = let small = small_there c in omega arith

-- after the group

pub returns-then-byte-lt128-clause-ok : goal.returns-then-byte-lt128-clause-ok
returns-then-byte-lt128-clause-ok c =
    let whole = rest_is c.args.bytes.now c.args.at in
    let test = rw whole at c.loop-index-test.true in
    let group = rw whole at c.from-group.ensures in
    let last = rw whole at c.if-byte-lt128.true in
    let sum : Summed (drop c.args.at c.args.bytes.now) (c.loop-index.index + 1) c.if-weight.value c.if-weight.weight =
    elim c.if-weight.branch [
      | then-weight+else-group-ne0 w ↦ rw (w.value-is, w.weight-is)
          (full_by (drop c.args.at c.args.bytes.now) c.loop-index.index c.loop-index.value c.loop-index.weight
          c.from-group.result c.loop-index.invariant.sum test group w.if-weight.true w.if-group-ne0.false)
      | else-weight w ↦ rw (w.value-is, w.weight-is)
          (more_by (drop c.args.at c.args.bytes.now) c.loop-index.index c.loop-index.value c.loop-index.weight
          c.from-group.result c.loop-index.invariant.sum test group w.if-weight.false)
    ] in
    has_unsigned c.args.bytes.now c.args.at c.loop-index.index c.if-weight.value c.if-weight.weight sum c.loop-index.invariant.goes_on test last

pub returns-then-byte-lt128-clause-read : goal.returns-then-byte-lt128-clause-read
returns-then-byte-lt128-clause-read c = λ n next h.
    let both : (n ≡ c.if-weight.value) × (next ≡ c.args.at + c.loop-index.index + 1) =
    has_one c.args.bytes.now c.args.at n next c.if-weight.value (c.args.at + c.loop-index.index + 1) h (returns-then-byte-lt128-clause-ok c) in
    cc

pub returns-then-byte-lt128-clause-short : goal.returns-then-byte-lt128-clause-short
returns-then-byte-lt128-clause-short c = (
  λ e. absurd (cc),
  λ e. absurd (ends_not_has c.args.bytes.now c.args.at c.if-weight.value (c.args.at + c.loop-index.index + 1) e (returns-then-byte-lt128-clause-ok c)),
)

pub returns-then-byte-lt128-clause-wide : goal.returns-then-byte-lt128-clause-wide
returns-then-byte-lt128-clause-wide c = (
  λ e. absurd (cc),
  λ w. absurd (has_not_wide c.args.bytes.now c.args.at c.if-weight.value (c.args.at + c.loop-index.index + 1) (returns-then-byte-lt128-clause-ok c) w),
)

pub loop-index-preserved : goal.loop-index-preserved
loop-index-preserved c =
    let whole = rest_is c.args.bytes.now c.args.at in
    let test = rw whole at c.loop-index-test.true in
    let group = rw whole at c.from-group.ensures in
    let next = rw whole at c.if-byte-lt128.false in
    record {
      goes_on = on_more (drop c.args.at c.args.bytes.now) c.loop-index.index test c.loop-index.invariant.goes_on next;
      sum = elim c.if-weight.branch [
        | then-weight+else-group-ne0 w ↦ rw (w.value-is, w.weight-is)
            (full_by (drop c.args.at c.args.bytes.now) c.loop-index.index c.loop-index.value c.loop-index.weight
            c.from-group.result c.loop-index.invariant.sum test group w.if-weight.true w.if-group-ne0.false)
        | else-weight w ↦ rw (w.value-is, w.weight-is)
            (more_by (drop c.args.at c.args.bytes.now) c.loop-index.index c.loop-index.value c.loop-index.weight
            c.from-group.result c.loop-index.invariant.sum test group w.if-weight.false)
      ];
    }

-- the bytes end

short_there : (c : goal.After-loop-index) → EndsFirst c.args.bytes.now c.args.at
short_there c =
    let whole = rest_is c.args.bytes.now c.args.at in
    let test = rw whole at c.loop-index-test.false in
    let reach = rw whole at c.loop-index.auto.index-end in
    ends_first c.args.bytes.now c.args.at c.loop-index.index c.loop-index.value c.loop-index.weight
    c.loop-index.invariant.sum c.loop-index.invariant.goes_on test reach

pub returns-clause-read : goal.returns-clause-read
returns-clause-read c = λ n next h. absurd (ends_not_has c.args.bytes.now c.args.at n next (short_there c) h)

pub returns-clause-short : goal.returns-clause-short
returns-clause-short c = (λ e. short_there c, λ e. refl)

pub returns-clause-wide : goal.returns-clause-wide
returns-clause-wide c = (λ e. absurd (cc), λ w. absurd (ends_not_wide c.args.bytes.now c.args.at (short_there c) w))
