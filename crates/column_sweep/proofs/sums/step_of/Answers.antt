use Rattle.std.proofs.Common.{◌∙◌, sym}
use Rattle.column_sweep.proofs.Stepping.{up_steps, down_steps}
use Rattle.column_sweep.proofs.sums.step_of.Goals as goal

pub returns : goal.returns
returns c =
    down_steps c.args.edge.now c.is_up.ensures.edge
    (sym c.is_up.ensures.value ∙ c.if-is_up.false) c.top_of-2.result c.bottom_of-2.result c.top_of-2.ensures.level
    c.bottom_of-2.ensures.level
    c.top_of-2.ensures.within c.bottom_of-2.ensures.within

pub returns-then-is_up : goal.returns-then-is_up
returns-then-is_up c =
    up_steps c.args.edge.now c.is_up.ensures.edge
    (sym c.is_up.ensures.value ∙ c.if-is_up.true) c.bottom_of.result c.top_of.result c.bottom_of.ensures.level
    c.top_of.ensures.level
    c.bottom_of.ensures.within c.top_of.ensures.within
