use Rattle.std.proofs.Common.{ℤ}
use Rattle.column_sweep.specs.RowSums.{row_sum}
use Rattle.column_sweep.proofs.Stepping.{steps_sorted}
use Rattle.column_sweep.proofs.sums.sums_for.Goals as goal

pub sums_of-requires-clause-steps : goal.sums_of-requires-clause-steps
sums_of-requires-clause-steps c =
    let sum : ℤ → ℤ = λ j. row_sum c.args.operand j c.args.edges.now in
    let sorted = steps_sorted sum _ _ _ _ c.sort_unstable.ensures.permutation c.sort_unstable-2.ensures.permutation c.in_ok-steps.ensures in
    (sum, c.in_ok-left.ensures sum (rw (c.as_slice.ensures.value, c.as_slice-2.ensures.value) sorted))

pub returns : goal.returns
returns c =
    let sum : ℤ → ℤ = λ j. row_sum c.args.operand j c.args.edges.now in
    let sorted = steps_sorted sum _ _ _ _ c.sort_unstable.ensures.permutation c.sort_unstable-2.ensures.permutation c.in_ok-steps.ensures in
    c.sums_of.ensures sum (c.in_ok-left.ensures sum (rw (c.as_slice.ensures.value, c.as_slice-2.ensures.value) sorted))
