use Rattle.std.proofs.Common.{arith, sym, ◌∙◌}
use Rattle.std.proofs.lemmas.Int.{ints}
use Rattle.square_size.proofs.RingPoints.{same_point}
use Rattle.square_size.proofs.rings.left_bend.Goals as goal

pub returns-in-Rising-clause-point : goal.returns-in-Rising-clause-point
returns-in-Rising-clause-point c =
    let kind = sym c.left.ensures.value ∙ c.in-Rising.is in
    let x = rw kind at c.bottom_left.ensures.value in
    let shot = c.y0.ensures.shot in
    rw kind (same_point _ _ _ _
    (omega (arith, ints, x, c.bottom_left.ensures.reach, c.requires.rectangle.columns, c.requires.columns))
    (omega (arith, ints, c.y0.ensures.value, shot.reach.y0, c.requires.rectangle.rows, c.requires.rows)))

pub returns-in-Falling-clause-point : goal.returns-in-Falling-clause-point
returns-in-Falling-clause-point c =
    let kind = sym c.left.ensures.value ∙ c.in-Falling.is in
    let x = rw kind at c.top_left.ensures.value in
    let shot = c.y1.ensures.shot in
    rw kind (same_point _ _ _ _
    (omega (arith, ints, x, c.top_left.ensures.reach, c.requires.rectangle.columns, c.requires.columns))
    (omega (arith, ints, c.y1.ensures.value, shot.reach.y1, c.requires.rectangle.rows, c.requires.rows)))
