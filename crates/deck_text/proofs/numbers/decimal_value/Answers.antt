use Rattle.std.proofs.Common.{arith}
use Rattle.deck_text.proofs.Digits.{few, digit_at, room, all_small, more_small, more_value}
use Rattle.deck_text.proofs.numbers.decimal_value.Goals as goal

pub overflow_mul-value : goal.overflow_mul-value
overflow_mul-value c =
    let short = few c.args.digits.now c.requires in
    let small = room c.loop-digit.digit-index c.loop-digit.value (omega arith) c.loop-digit.invariant.small in
    omega arith

pub overflow_sub-digit : goal.overflow_sub-digit
overflow_sub-digit c = (digit_at c.args.digits.now c.loop-digit.digit-index c.requires (omega arith)).0

pub overflow_add-value : goal.overflow_add-value
overflow_add-value c =
    let short = few c.args.digits.now c.requires in
    let digit = digit_at c.args.digits.now c.loop-digit.digit-index c.requires (omega arith) in
    let small = room c.loop-digit.digit-index c.loop-digit.value (omega arith) c.loop-digit.invariant.small in
    omega (arith, c.from.ensures)

pub loop-digit-preserved : goal.loop-digit-preserved
loop-digit-preserved c =
    let digit = digit_at c.args.digits.now c.loop-digit.digit-index c.requires (omega arith) in
    record {
      value = more_value c.args.digits.now c.loop-digit.digit-index c.loop-digit.value c.from.result (omega arith) c.loop-digit.invariant.value c.from.ensures;
      small = more_small c.loop-digit.digit-index c.loop-digit.value c.from.result c.loop-digit.invariant.small (omega (arith, c.from.ensures));
    }

pub returns-clause-small : goal.returns-clause-small
returns-clause-small c = all_small c.loop-digit.value c.loop-digit.digit-index c.loop-digit.invariant.small (omega (arith, few c.args.digits.now c.requires))
