use Rattle.std.proofs.Common.{arith, sym, ◌∙◌}
use Rattle.std.proofs.lemmas.Int.{ints}
use Rattle.square_size.proofs.RingPoints.{same_point}
use Rattle.square_size.proofs.rings.right_bend.Goals as goal

pub returns-in-Rising : goal.returns-in-Rising
returns-in-Rising c =
    let kind = sym c.right.ensures.value ∙ c.in-Rising.is in
    let x = rw kind at c.top_right.ensures.value in
    let shot = c.y1.ensures.shot in
    rw kind (same_point _ _ _ _
    (omega (arith, ints, x, c.top_right.ensures.reach, c.requires.rectangle.columns, c.requires.columns))
    (omega (arith, ints, c.y1.ensures.value, shot.reach.y1, c.requires.rectangle.rows, c.requires.rows)))

pub returns-in-Falling : goal.returns-in-Falling
returns-in-Falling c =
    let kind = sym c.right.ensures.value ∙ c.in-Falling.is in
    let x = rw kind at c.bottom_right.ensures.value in
    let shot = c.y0.ensures.shot in
    rw kind (same_point _ _ _ _
    (omega (arith, ints, x, c.bottom_right.ensures.reach, c.requires.rectangle.columns, c.requires.columns))
    (omega (arith, ints, c.y0.ensures.value, shot.reach.y0, c.requires.rectangle.rows, c.requires.rows)))
