use Rattle.std.proofs.Common.{rules, arith, ◌<◌, length, [], ◌∷◌, ◌++◌, length-append, subst, sym, ◌∙◌, ap}
use Rattle.oas_record.specs.Lists.{HasDelta, NoDelta, NoDeltas, turned}
use Rattle.oas_record.proofs.ListLemmas.{turns_push, deltas_push, deltas_fail}
use Rattle.oas_record.proofs.lists.end_of_deltas.Goals as goal

pub returns-in_err-_delta-clause-bad : goal.returns-in_err-_delta-clause-bad
returns-in_err-_delta-clause-bad c =
    let stands = c.loop-index.invariant.stands in
    let small : length stands.0 < c.args.count = omega (arith, stands.1, c.loop-index-test.true) in
    let fails : NoDeltas c.args.form c.args.count c.args.bytes.now c.args.at c.in_err-_delta.field-0.0 =
    deltas_fail c.args.form c.args.bytes.now c.args.at stands.0 c.loop-index.next c.args.count c.in_err-_delta.field-0.0 stands.3 small
    (subst (λ f. NoDelta f c.args.bytes.now c.loop-index.next c.in_err-_delta.field-0.0) stands.2 c.in_err-_delta.ensures.bad) in
    search rules

pub loop-index-preserved : goal.loop-index-preserved
loop-index-preserved c =
    let stands = c.loop-index.invariant.stands in
    let delta = c.in_ok-_delta._delta in
    record {
      stands = (
        stands.0 ++ delta ∷ [],
        omega (arith, length-append stands.0 (delta ∷ []), stands.1),
        c.turned-current.ensures ∙ (ap turned stands.2 ∙ sym (turns_push stands.0 delta c.args.form)),
        deltas_push c.args.form c.args.bytes.now c.args.at stands.0 c.loop-index.next delta c.in_ok-_delta.end stands.3
            (subst (λ f. HasDelta f c.args.bytes.now c.loop-index.next delta c.in_ok-_delta.end) stands.2 c.in_ok-_delta.ensures.ok),
      );
      within = c.in_ok-_delta.ensures.within;
    }
