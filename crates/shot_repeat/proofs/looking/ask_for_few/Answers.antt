use Rattle.std.proofs.Common.{◌≤◌, length, drop, refl, arith}
use Rattle.std.proofs.Math.ListN.{drop_of_length-le}
use Rattle.shot_repeat.proofs.Asks.{none_asked, one_asked, few_by, too_many_asked, none_in_nothing}
use Rattle.shot_repeat.proofs.looking.ask_for_few.Goals as goal

pub loop-next-init : goal.loop-next-init
loop-next-init c = none_asked c.args.bytes.now c.args.at c.requires

pub returns-then-bytes-after : goal.returns-then-bytes-after
returns-then-bytes-after c =
    let a = c.loop-next.invariant in (
      λ yes. few_by (drop c.args.at c.args.bytes.now) (drop c.loop-next.next c.args.bytes.now) a.records a.narrow a.text a.few
          (λ r x narrow e. let own = c.record_at-after.ensures.read r x narrow e in absurd (omega (arith, own.1, c.if-bytes-after.true))),
      λ few. refl,
    )

pub returns-then-count-gt-MOST_OF_RECORD : goal.returns-then-count-gt-MOST_OF_RECORD
returns-then-count-gt-MOST_OF_RECORD c = (
  λ no. absurd (cc),
  λ few.
      let spelled = c.record_at-after.ensures.spelled (omega (arith, c.if-bytes-after.false)) in
      let most = too_many_asked c.args.bytes.now
      (drop c.record_at-after.result.1 c.args.bytes.now) c.args.at c.loop-next.next c.loop-next.total
      c.record_at-after.result.0 c.loop-next.invariant c.record_at-after.ensures.narrow spelled.1 few in
      absurd (omega (arith, most.0, c.count_of-count.ensures, c.if-count-gt-MOST_OF_RECORD.true)),
)

pub returns-then-total-count-gt-MOST_OF_FILE : goal.returns-then-total-count-gt-MOST_OF_FILE
returns-then-total-count-gt-MOST_OF_FILE c = (
  λ no. absurd (cc),
  λ few.
      let spelled = c.record_at-after.ensures.spelled (omega (arith, c.if-bytes-after.false)) in
      let most = too_many_asked c.args.bytes.now
      (drop c.record_at-after.result.1 c.args.bytes.now) c.args.at c.loop-next.next c.loop-next.total
      c.record_at-after.result.0 c.loop-next.invariant c.record_at-after.ensures.narrow spelled.1 few in
      absurd (omega (arith, most.1, c.count_of-count.ensures, c.if-total-count-gt-MOST_OF_FILE.true)),
)

pub loop-next-preserved : goal.loop-next-preserved
loop-next-preserved c =
    let inside : c.record_at-after.result.1 ≤ length c.args.bytes.now = omega (arith, c.if-bytes-after.false) in
    let spelled = c.record_at-after.ensures.spelled inside in
    one_asked c.args.bytes.now c.args.at c.loop-next.next c.record_at-after.result.1 c.loop-next.total
    c.count_of-count.result c.record_at-after.result.0 c.loop-next.invariant c.record_at-after.ensures.narrow
    spelled.1 inside
    c.count_of-count.ensures (omega (arith, c.if-count-gt-MOST_OF_RECORD.false)) (omega (arith, c.if-total-count-gt-MOST_OF_FILE.false))

pub returns : goal.returns
returns c =
    let a = c.loop-next.invariant in (
      λ yes. few_by (drop c.args.at c.args.bytes.now) (drop c.loop-next.next c.args.bytes.now) a.records a.narrow a.text a.few
          (none_in_nothing (drop c.loop-next.next c.args.bytes.now) (drop_of_length-le c.args.bytes.now (omega (arith, c.loop-next-test.false)))),
      λ few. refl,
    )
