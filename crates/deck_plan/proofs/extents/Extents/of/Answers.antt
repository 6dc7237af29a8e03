use Rattle.std.proofs.Common.{◌≡◌, subst, Some, slice_get, arith}
use Rattle.deck_plan.specs.Extents.{AreExtents}
use Rattle.deck_plan.proofs.ExtentLemmas.{extents_begin, extents_more, near_any}
use Rattle.deck_plan.proofs.extents.Extents.of.Goals as goal

pub loop-number-init : goal.loop-number-init
loop-number-init c =
    record {
      extents = extents_begin c.args.tree.now.layout.cells c.args.tree.now.top c.args.deck.now c.requires.sound
          c.requires.frame;
      few = omega arith;
    }

pub of_step-requires-clause-sound : goal.of_step-requires-clause-sound
of_step-requires-clause-sound c =
    let n = c.loop-number.number in
    let here = subst (λ steps. slice_get steps n ≡ Some c.step_at-step.result) c.as_slice-steps.ensures c.step_at-step.ensures in
    (n, omega (arith, c.loop-number-test.true, c.requires.count, c.requires.few), c.requires.sound n c.step_at-step.result here)

pub of_step-requires-clause-near : goal.of_step-requires-clause-near
of_step-requires-clause-near c =
    near_any c.args.tree.now.layout.cells c.args.tree.now.top c.args.deck.now c.loop-number.number c.loop-number.extents.by_name c.loop-number.invariant.extents
    (omega (arith, c.loop-number.invariant.few, c.requires.count, c.requires.few))

pub loop-number-preserved : goal.loop-number-preserved
loop-number-preserved c =
    let n = c.loop-number.number in
    let step = c.step_at-step.result in
    let here = subst (λ steps. slice_get steps n ≡ Some step) c.as_slice-steps.ensures c.step_at-step.ensures in
    record {
      extents = extents_more c.args.tree.now.layout.cells c.args.tree.now.top c.args.deck.now c.requires.sound
          c.requires.frame n c.loop-number.extents.by_name step c.of_step.result
          c.loop-number.invariant.extents (omega (arith, c.loop-number-test.true, c.requires.count, c.requires.few)) here c.of_step.ensures;
      few = omega (arith, c.loop-number-test.true);
    }

pub returns : goal.returns
returns c =
    let all : c.loop-number.number ≡ c.args.count = omega (arith, c.loop-number.invariant.few, c.loop-number-test.false) in
    subst (λ n. AreExtents c.args.tree.now.layout.cells c.args.tree.now.top c.args.deck.now n c.loop-number.extents.by_name) all c.loop-number.invariant.extents
