use Rattle.std.proofs.Common.{◌≡◌, ℕ, suc, ◌+◌, ap, subst, refl, ◌∙◌, arith}
use Rattle.oas_lex.specs.declared.fields.ShotFields.{ShotFields}
use Rattle.shot_repeat.specs.Values.{moved}
use Rattle.shot_repeat.proofs.Gifts.{moved_none, moved_next}
use Rattle.shot_repeat.proofs.Puts.{PutSoFar, none_put, one_put, none_given}
use Rattle.shot_repeat.proofs.giving.put_shots.Goals as goal

next_is : (n : ℕ) → suc n ≡ n + 1
next_is n = omega arith

pub loop-done-init : goal.loop-done-init
loop-done-init c = record {
  few = omega arith;
  next = moved_none c.args.fields.now c.args.step;
  put = none_put c.args.fields.now c.args.step c.args.count c.args.shots.now;
}

pub returns-in_default-clause-refused : goal.returns-in_default-clause-refused
returns-in_default-clause-refused c = (
  refl,
  none_given c.args.fields.now c.loop-done.next c.args.step c.loop-done.done c.args.count c.args.shots.now
      c.loop-done.shots c.loop-done-test.true c.loop-done.invariant.put c.loop-done.invariant.next
      (λ z h s. let some = c.in_default.ensures.all z h s in absurd (cc)),
)

pub loop-done-preserved : goal.loop-done-preserved
loop-done-preserved c =
    let f = c.args.fields.now in
    let step = c.args.step in
    let done = c.loop-done.done in
    record {
      few = omega (arith, c.loop-done-test.true);
      next = c.stepped-next.ensures
          ∙ (ap (λ (g : ShotFields). moved g step 1) c.loop-done.invariant.next
          ∙ (moved_next f step done ∙ ap (moved f step) (next_is done)));
      put = subst (λ (n : ℕ). PutSoFar f step n c.args.count c.args.shots.now c.push.new.self) (next_is done)
          (one_put f c.loop-done.next step done c.args.count c.args.shots.now c.loop-done.shots c.push.new.self
          c.in-Some.shot c.loop-done-test.true c.loop-done.invariant.put c.loop-done.invariant.next
          c.in-Some.ensures.some.0 c.in-Some.ensures.some.1 c.in_ok-push.ensures.ok);
    }
