use Rattle.std.proofs.Common.{arith, sym, ◌∙◌, ◌+ℤ◌, ◌-ℤ◌, refl}
use Rattle.std.proofs.lemmas.Int.{ints}
use Rattle.square_size.proofs.RingPoints.{lower_left_within, upper_left_within}
use Rattle.square_size.proofs.Uprights.{level_edge, no_edge, point_within, same_edge, this_edge}
use Rattle.square_size.proofs.pieces.upright_left.Goals as goal

pub up_between-requires-clause-first : goal.up_between-requires-clause-first
up_between-requires-clause-first c =
    let kind = sym c.left.ensures.value ∙ c.in-Upright.is in
    let shot = c.left.ensures.shot in
    let here = rw kind at shot.reach.bottom_left in
    let ring = lower_left_within c.args.by.dx c.args.by.dy c.args.trap.now c.requires.sizing.rectangle shot c.requires.reach in
    point_within _ _ (c.in-Upright.c -ℤ c.args.by.dx) (c.args.trap.now.y0 -ℤ c.args.by.dy)
    (omega (arith, ints, here, c.requires.sizing.rectangle.columns, c.requires.sizing.columns))
    (omega (arith, ints, c.y0.ensures.value, shot.reach.y0, c.requires.sizing.rectangle.rows, c.requires.sizing.rows))
    (rw kind at ring)

pub up_between-requires-clause-second : goal.up_between-requires-clause-second
up_between-requires-clause-second c =
    let kind = sym c.left.ensures.value ∙ c.in-Upright.is in
    let shot = c.left.ensures.shot in
    let here = rw kind at shot.reach.top_left in
    let ring = upper_left_within c.args.by.dx c.args.by.dy c.args.trap.now c.requires.sizing.rectangle shot c.requires.reach in
    point_within _ _ (c.in-Upright.c -ℤ c.args.by.dx) (c.args.trap.now.y1 +ℤ c.args.by.dy)
    (omega (arith, ints, here, c.requires.sizing.rectangle.columns, c.requires.sizing.columns))
    (omega (arith, ints, c.y1.ensures.value, shot.reach.y1, c.requires.sizing.rectangle.rows, c.requires.sizing.rows))
    (rw kind at ring)

pub returns-in-Upright-clause-first : goal.returns-in-Upright-clause-first
returns-in-Upright-clause-first c =
    let kind = sym c.left.ensures.value ∙ c.in-Upright.is in
    let shot = c.left.ensures.shot in
    let here = rw kind at shot.reach.bottom_left in
    this_edge _ _ (rw kind (same_edge _ _ _ _ _ _ _ _ _ c.up_between.ensures
    (omega (arith, ints, here, c.requires.sizing.rectangle.columns, c.requires.sizing.columns))
    (omega (arith, ints, c.y0.ensures.value, shot.reach.y0, c.requires.sizing.rectangle.rows, c.requires.sizing.rows))
    (omega (arith, ints, here, c.requires.sizing.rectangle.columns, c.requires.sizing.columns))
    (omega (arith, ints, c.y1.ensures.value, shot.reach.y1, c.requires.sizing.rectangle.rows, c.requires.sizing.rows))))

pub returns-in-Upright-clause-second : goal.returns-in-Upright-clause-second
returns-in-Upright-clause-second c =
    let kind = sym c.left.ensures.value ∙ c.in-Upright.is in
    no_edge _ _ (rw kind (level_edge _ _ refl))
