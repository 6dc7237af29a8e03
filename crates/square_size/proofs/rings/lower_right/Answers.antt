use Rattle.std.proofs.Common.{arith}
use Rattle.std.proofs.lemmas.Int.{ints}
use Rattle.square_size.proofs.RingPoints.{same_point}
use Rattle.square_size.proofs.rings.lower_right.Goals as goal

pub returns : goal.returns
returns c =
    let shot = c.y0.ensures.shot in
    same_point _ _ _ _
    (omega (arith, ints, c.bottom_right.ensures.value, c.bottom_right.ensures.reach, c.requires.rectangle.columns, c.requires.columns))
    (omega (arith, ints, c.y0.ensures.value, shot.reach.y0, c.requires.rectangle.rows, c.requires.rows))
