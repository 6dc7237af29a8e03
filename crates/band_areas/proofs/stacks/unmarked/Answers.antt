use Rattle.std.proofs.Common.{◌∙◌, ap, Bool, List, arith}
use Rattle.band_areas.proofs.GrowingLemmas.{left_out, left_out_none, left_out_ended}
use Rattle.band_areas.proofs.stacks.unmarked.Goals as goal

pub returns : goal.returns
returns c = λ strip marked.
    left_out_none c.args.marks.now c.args.growing.now c.loop-n.n c.loop-n.list.items (omega (arith, c.loop-n-test.false)) c.loop-n.invariant
    ∙ ap (λ (marks : List Bool). left_out marks c.args.growing.now) marked ∙ left_out_ended c.args.growing.now strip
