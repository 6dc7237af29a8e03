use Rattle.column_sweep.proofs.Stepping.{paired, paired_rest, summed_none, summed_more, summed_all}
use Rattle.column_sweep.proofs.sums.sums_of.Goals as goal

pub loop-rise-init : goal.loop-rise-init
loop-rise-init c = record {
  paired = rw (c.as_slice-rising.ensures.value, c.as_slice-falling.ensures.value) (paired c.requires.steps.0 _ _ c.requires.steps.1);
  summed = λ sum h. rw (c.as_slice-rising.ensures.value, c.as_slice-falling.ensures.value, c.new-sums.ensures.items)
      (summed_none c.args.cut.x c.args.operand sum _ _ h);
}

pub loop-rise-preserved : goal.loop-rise-preserved
loop-rise-preserved c =
    let pair = rw (c.in-Some.ensures.cases.0, c.in-Some-split_first.ensures.cases.0) at c.loop-rise.invariant.paired in
    record {
      paired = paired_rest _ _ _ _ pair;
      summed = λ sum h. rw c.in_ok-put.ensures
          (summed_more c.args.cut.x c.args.operand sum _ _ _ _ _ _
          (rw (c.in-Some.ensures.cases.0, c.in-Some-split_first.ensures.cases.0) at
          (c.loop-rise.invariant.summed sum h)) c.sum_edge.ensures);
    }

pub returns : goal.returns
returns c = λ sum h.
    summed_all c.args.cut.x c.args.operand sum _ _ c.loop-rise.sums.items c.in_default.ensures.cases
    c.loop-rise.invariant.paired (c.loop-rise.invariant.summed sum h)
