use Rattle.std.proofs.Common.{◌≡◌, ℕ, suc, ◌+◌, [], ◌∷◌, ◌++◌, ap, subst, refl, ◌∙◌, arith}
use Rattle.oas_lex.specs.declared.fields.ShotFields.{ShotFields}
use Rattle.shot_reader.proofs.ForCallers.{near_fields}
use Rattle.shot_repeat.specs.Values.{moved}
use Rattle.shot_repeat.proofs.Gifts.{moved_none, moved_next}
use Rattle.shot_repeat.proofs.Puts.{PutSoFar, none_put, one_put, all_put, none_given}
use Rattle.shot_repeat.proofs.giving.look_at_shots.Goals as goal

next_is : (n : ℕ) → suc n ≡ n + 1
next_is n = omega arith

pub loop-done-init : goal.loop-done-init
loop-done-init c = record {
  few = omega arith;
  next = moved_none c.args.fields.now c.args.step;
  seen = [];
  put = none_put c.args.fields.now c.args.step c.args.count [];
}

pub returns-in_default-clause-refused : goal.returns-in_default-clause-refused
returns-in_default-clause-refused c = (
  refl,
  none_given c.args.fields.now c.loop-done.next c.args.step c.loop-done.done c.args.count [] c.loop-done.invariant.seen
      c.loop-done-test.true c.loop-done.invariant.put c.loop-done.invariant.next
      (λ z h s. let some = c.in_default.ensures.all z h s in absurd (cc)),
)

pub loop-done-preserved : goal.loop-done-preserved
loop-done-preserved c =
    let f = c.args.fields.now in
    let step = c.args.step in
    let done = c.loop-done.done in
    let seen = c.loop-done.invariant.seen in
    let z = c.in-Some.shot in
    record {
      few = omega (arith, c.loop-done-test.true);
      next = c.stepped-next.ensures
          ∙ (ap (λ (g : ShotFields). moved g step 1) c.loop-done.invariant.next
          ∙ (moved_next f step done ∙ ap (moved f step) (next_is done)));
      seen = seen ++ z ∷ [];
      put = subst (λ (n : ℕ). PutSoFar f step n c.args.count [] (seen ++ z ∷ [])) (next_is done)
          (one_put f c.loop-done.next step done c.args.count [] seen
          (seen ++ z ∷ []) z c.loop-done-test.true c.loop-done.invariant.put c.loop-done.invariant.next
          c.in-Some.ensures.some.0 c.in-Some.ensures.some.1 refl);
    }

pub returns-clause-ok : goal.returns-clause-ok
returns-clause-ok c =
    let all = all_put c.args.fields.now c.args.step c.loop-done.done c.args.count [] c.loop-done.invariant.seen
    (omega (arith, c.loop-done-test.false)) c.loop-done.invariant.put in (all.0, all.2)

pub stepped-next-requires-clause-x : goal.stepped-next-requires-clause-x
stepped-next-requires-clause-x c = (near_fields c.loop-done.next c.in-Some.shot c.in-Some.ensures.some.0 c.in-Some.ensures.some.1).x
