use Rattle.std.proofs.Common.{◌≡◌, true, false}
use Rattle.half_grid.specs.Edges.{is_of}
use Rattle.column_sweep.proofs.Stepping.{steps_more, steps_skip, same_operand}
use Rattle.column_sweep.proofs.sums.add_step.Goals as goal

pub returns : goal.returns
returns c = λ sum h.
    let own : is_of c.args.operand c.args.edge.now.operand ≡ true = same_operand _ _ _ _ _ c.operand.ensures.value c.is_of.ensures c.if-not-is_of.false in
    let step = c.step_of-step.ensures c.args.operand own in
    rw (c.in_ok-push.ensures.items, c.in_ok-push-2.ensures.items)
    (steps_more c.args.operand sum c.args.edge.now c.args.steps.now.rises.items c.args.steps.now.falls.items
    c.step_of-step.result.rise c.step_of-step.result.fall h step)

pub returns-then-not-is_of : goal.returns-then-not-is_of
returns-then-not-is_of c = λ sum h.
    let other : is_of c.args.operand c.args.edge.now.operand ≡ false = same_operand _ _ _ _ _ c.operand.ensures.value c.is_of.ensures c.if-not-is_of.true in
    steps_skip c.args.operand sum c.args.edge.now c.args.steps.now.rises.items c.args.steps.now.falls.items h other
