use Rattle.std.proofs.Common.{rules, arith, ◌<◌, length, [], ◌∷◌, ◌++◌, length-append}
use Rattle.oas_record.specs.Lists.{NoNumbers}
use Rattle.oas_record.proofs.ListLemmas.{numbers_push, numbers_fail}
use Rattle.oas_record.proofs.lists.end_of_numbers.Goals as goal

pub returns-in_err-_number-clause-bad : goal.returns-in_err-_number-clause-bad
returns-in_err-_number-clause-bad c =
    let stands = c.loop-index.invariant.stands in
    let small : length stands.0 < c.args.count = omega (arith, stands.1, c.loop-index-test.true) in
    let fails : NoNumbers c.args.count c.args.bytes.now c.args.at c.in_err-_number.field-0.0 =
    numbers_fail c.args.bytes.now c.args.at stands.0 c.loop-index.next c.args.count c.in_err-_number.field-0.0 stands.2 small c.in_err-_number.ensures.bad in
    search rules

pub loop-index-preserved : goal.loop-index-preserved
loop-index-preserved c =
    let stands = c.loop-index.invariant.stands in
    record {
      stands = (
        stands.0 ++ c.in_ok-_number._number ∷ [],
        omega (arith, length-append stands.0 (c.in_ok-_number._number ∷ []), stands.1),
        numbers_push c.args.bytes.now c.args.at stands.0 c.loop-index.next c.in_ok-_number._number c.in_ok-_number.end stands.2 c.in_ok-_number.ensures.ok,
      );
      within = c.in_ok-_number.ensures.within;
    }
