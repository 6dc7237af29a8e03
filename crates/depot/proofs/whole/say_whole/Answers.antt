use Rattle.std.proofs.Common.{◌∙◌, arith}
use Rattle.std.proofs.lemmas.List.{length-drop, take_rest}
use Rattle.depot.proofs.ForCallers.{with_said-more, NeverFall-trans}
use Rattle.depot.proofs.whole.say_whole.Goals as goal

pub loop-done-preserved : goal.loop-done-preserved
loop-done-preserved g c = let at = g.D.Depot.content in record {
  within = omega (arith, rw (take_rest c.args.bytes.now c.loop-done.done) at c.in_ok-done.ensures.bound, length-drop c.loop-done.done c.args.bytes.now);
  content = λ told. with_said-more (at c.args.depot.now) (at c.loop-done.depot)
      (at c.say.new.self) c.args.bytes.now c.loop-done.done c.in_ok-done.field-0 (c.loop-done.invariant.content told)
      (rw (take_rest c.args.bytes.now c.loop-done.done) at (c.in_ok-done.ensures.ok told));
  uncounted = c.in_ok-done.ensures.counts.uncounted ∙ c.loop-done.invariant.uncounted;
  counted = NeverFall-trans _ _ _ c.loop-done.invariant.counted c.say.ensures.counts.counted;
}
