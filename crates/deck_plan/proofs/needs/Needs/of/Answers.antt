use Rattle.std.proofs.Common.{◌≡◌, ◌∙◌, ◌-◌, suc, sym, ap, subst, arith, slice_get, Some}
use Rattle.std.proofs.lemmas.Int.{ints}
use Rattle.deck_plan.specs.Needs.{operands_of}
use Rattle.deck_plan.specs.Halos.{AreHalos, IsSoundOperand, passed}
use Rattle.deck_plan.proofs.HaloLemmas.{halos_begin, halos_pass, sound_first, sound_second}
use Rattle.deck_plan.proofs.StepLemmas.{sound_operand}
use Rattle.deck_plan.proofs.needs.Needs.of.Goals as goal

pub loop-number-init : goal.loop-number-init
loop-number-init c = record { halos = halos_begin c.args.deck.now c.args.name (omega (arith, c.requires.name, c.requires.few)); few = omega arith }

-- the step of the definition
here : (c : goal.After-operands_of) → slice_get c.args.deck.now.steps (c.loop-number.number - 1) ≡ Some c.step_at-step.result
here c = subst (λ steps. slice_get steps (c.loop-number.number - 1) ≡ Some c.step_at-step.result) c.as_slice-steps.ensures c.step_at-step.ensures

pub pass-requires-clause-first : goal.pass-requires-clause-first
pass-requires-clause-first c =
    let n = c.loop-number.number - 1 in
    sound_first (IsSoundOperand n) c.operands_of.result.first c.operands_of.result.second (operands_of c.step_at-step.result) c.operands_of.ensures.list
    (λ operand. sound_operand c.args.deck.now.frame n c.step_at-step.result operand (c.requires.sound n c.step_at-step.result (here c)))

pub pass-requires-clause-second : goal.pass-requires-clause-second
pass-requires-clause-second c =
    let n = c.loop-number.number - 1 in
    sound_second (IsSoundOperand n) c.operands_of.result.first c.operands_of.result.second (operands_of c.step_at-step.result) c.operands_of.ensures.list
    (λ operand. sound_operand c.args.deck.now.frame n c.step_at-step.result operand (c.requires.sound n c.step_at-step.result (here c)))

pub pass-requires-clause-halo : goal.pass-requires-clause-halo
pass-requires-clause-halo c = λ need is.
    let n = c.loop-number.number - 1 in
    let h = c.loop-number.invariant.halos in
    (h.low n need is, (let high = h.high n need is in omega (arith, ints, high, c.requires.name, c.requires.few)))

pub loop-number-preserved : goal.loop-number-preserved
loop-number-preserved c =
    let n = c.loop-number.number - 1 in
    let down : c.loop-number.number ≡ suc n = omega (arith, c.loop-number-test.true) in
    let deck = c.args.deck.now in
    let needs = c.loop-number.needs.by_name in
    let step = c.step_at-step.result in
    let h = here c.before in
    record {
      halos = subst (AreHalos deck c.args.name n) (sym (c.pass.ensures ∙ ap (passed needs n) c.operands_of.ensures.list))
          (halos_pass deck c.args.name n needs
          (subst (λ m. AreHalos deck c.args.name m needs) down c.loop-number.invariant.halos)
          (omega (arith, c.requires.name, c.requires.few)) step h (c.requires.sound n step h)
          (omega (arith, c.loop-number.invariant.few, c.requires.name, c.requires.few)));
      few = omega (arith, c.loop-number.invariant.few);
    }
