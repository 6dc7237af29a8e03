use Rattle.std.proofs.Common.{rules}
use Rattle.oas_record.specs.Values.{NoValues}
use Rattle.oas_record.proofs.ListLemmas.{values_push, values_fail}
use Rattle.oas_record.proofs.values.end_of_values.Goals as goal

pub returns-in_err-next-clause-bad : goal.returns-in_err-next-clause-bad
returns-in_err-next-clause-bad c =
    let fails : NoValues c.args.count c.args.bytes.now c.args.at c.in_err-next.field-0.0 =
    values_fail c.loop-index._index c.args.bytes.now c.args.at c.loop-index.next c.args.count c.in_err-next.field-0.0
    c.loop-index.invariant.stands c.loop-index-test.true c.in_err-next.ensures.bad in
    search rules

pub loop-index-preserved : goal.loop-index-preserved
loop-index-preserved c = record {
  stands = values_push c.loop-index._index c.args.bytes.now c.args.at c.loop-index.next c.in_ok-next.next c.loop-index.invariant.stands c.in_ok-next.ensures.ok;
  within = c.in_ok-next.ensures.within;
}
