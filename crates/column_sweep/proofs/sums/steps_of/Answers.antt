use Rattle.std.proofs.Common.{List, ◌∷◌, [], ◌+ℤ◌, subst}
use Rattle.half_grid.specs.Edges.{EdgeParts}
use Rattle.column_sweep.specs.RowSums.{row_sum}
use Rattle.column_sweep.specs.Steps.{AreSteps}
use Rattle.column_sweep.proofs.Stepping.{sum_so_far, steps_begin, steps_go_on, steps_all}
use Rattle.column_sweep.proofs.sums.steps_of.Goals as goal

pub loop-edge-init : goal.loop-edge-init
loop-edge-init c = rw (c.new.ensures.items, c.new-2.ensures.items) (steps_begin c.args.operand c.args.edges.now)

pub loop-edge-preserved : goal.loop-edge-preserved
loop-edge-preserved c =
    let added = c.in_ok-add_step.ensures (sum_so_far c.args.operand c.args.edges.now c.loop-edge.left.now) c.loop-edge.invariant in
    steps_go_on c.args.operand c.args.edges.now c.in-Some.edge.now c.in-Some.rest.now _ _
    (subst (λ (left : List EdgeParts). AreSteps
    (λ j. sum_so_far c.args.operand c.args.edges.now left j +ℤ row_sum c.args.operand j (c.in-Some.edge.now ∷ []))
    c.add_step.new.steps.rises.items c.add_step.new.steps.falls.items) c.in-Some.ensures.cases.0 added)

pub returns : goal.returns
returns c = steps_all c.args.operand c.args.edges.now c.loop-edge.left.now _ _ c.in_default.ensures.cases c.loop-edge.invariant
