use Rattle.std.proofs.Common.{drop, arith}
use Rattle.shot_repeat.proofs.Numbers.{numbers_more, left_less, some_left, none_left}
use Rattle.shot_repeat.proofs.refusing.after_numbers.Goals as goal

pub returns-in-None-clause-there : goal.returns-in-None-clause-there
returns-in-None-clause-there c = λ after l.
    let f = some_left (drop c.loop-done.next c.args.bytes.now) c.args.count c.loop-done.done after c.loop-done-test.true (c.loop-done.invariant.left after l) in
    let some = c.in-None.ensures.all f.number f.others f.is f.text in
    absurd (cc)

pub loop-done-preserved : goal.loop-done-preserved
loop-done-preserved c = record {
  few = omega (arith, c.loop-done-test.true);
  read = numbers_more c.args.bytes.now c.args.at c.loop-done.done c.loop-done.next c.in-Some.end c.loop-done.invariant.read c.in-Some.ensures.some;
  left = λ after l. left_less c.args.bytes.now c.loop-done.next c.in-Some.end c.args.count c.loop-done.done after
      c.loop-done-test.true c.in-Some.ensures.some (c.loop-done.invariant.left after l);
}

pub returns-clause-after : goal.returns-clause-after
returns-clause-after c = λ after l.
    none_left (drop c.loop-done.next c.args.bytes.now) _ after (omega (arith, c.loop-done-test.false)) (c.loop-done.invariant.left after l)
