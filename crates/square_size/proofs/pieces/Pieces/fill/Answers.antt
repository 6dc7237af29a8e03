use Rattle.std.proofs.Common.{sym, ◌∙◌}
use Rattle.square_size.specs.Laws.Growing.{ring_listed}
use Rattle.square_size.proofs.Taking.{same_listed}
use Rattle.square_size.proofs.pieces.Pieces.fill.Goals as goal

pub returns : goal.returns
returns c =
    same_listed _ _ _ _ _ _ _ _ c.put_left.ensures.first c.put_left.ensures.second c.put_right.ensures.first
    c.put_right.ensures.second
    ∙ sym (ring_listed c.args.by.dx c.args.by.dy c.args.trap.now)
