use Rattle.std.proofs.Common.{arith}
use Rattle.std.proofs.lemmas.Int.{ints}
use Rattle.square_size.proofs.RingPoints.{same_point}
use Rattle.square_size.proofs.rings.upper_left.Goals as goal

pub returns : goal.returns
returns c =
    let shot = c.y1.ensures.shot in
    same_point _ _ _ _
    (omega (arith, ints, c.top_left.ensures.value, c.top_left.ensures.reach, c.requires.rectangle.columns, c.requires.columns))
    (omega (arith, ints, c.y1.ensures.value, shot.reach.y1, c.requires.rectangle.rows, c.requires.rows))
