use Rattle.flat_walk.proofs.ShowLemmas.{meet_off}
use Rattle.flat_walk.proofs.BoxLemmas.{box_hides}
use Rattle.flat_walk.proofs.blocks.may_show.Goals as goal

pub returns : goal.returns
returns c = λ no q inside.
    box_hides c.args.window c.args.orient c.args.at c.rows_of.result.low c.rows_of.result.high c.args.around.now c.rows_of.ensures.between
    (meet_off c.args.window c.rows_of.result.low c.rows_of.result.high c.raised.result.low c.raised.result.high
    c.args.at.y c.meet.result c.raised.ensures.low c.raised.ensures.high c.meet.ensures no) q inside
