use Rattle.std.proofs.Common.{rules, FitsSigned, ◌≡◌, ◌+◌, ◌-◌, ℤ, length, ap, sym, subst, arith}
use mir.Syntax.{w64}
use Rattle.std.proofs.lemmas.Int.{to_z-of_z}
use Rattle.half_grid.specs.Winding.{winding}
use Rattle.half_grid.specs.declared.plane.Point.{Point}
use Rattle.half_grid.specs.declared.plane.Tile.{Tile}
use Rattle.bool_ops.specs.Monotone.{twice_round, IsClimb, rest_of}
use Rattle.bool_ops.proofs.ClimbLemmas.{first_is, first_rest, ring_length}
use Rattle.bool_ops.proofs.climbs.first_climb.Goals as goal

pub returns-clause-climb : goal.returns-clause-climb
returns-clause-climb c =
    let points = c.args.points.now in
    let low = c.lowest-low.result in
    let from = c.point_at-from.result.y in
    let fits : FitsSigned w64 from = search rules in
    let some = ring_length points (omega (arith, c.lowest-low.ensures)) in
    subst (λ (y : ℤ). IsClimb (twice_round points) (record { from = y; ahead = c.in-Some.ahead; back = c.in-Some-ascent_back.back }))
    (sym (to_z-of_z w64 from fits))
    (first_is points low (low + (length points - 1)) c.level-start.result c.level_back-stop.result c.requires c.lowest-low.ensures
    (omega (arith, c.lowest-low.ensures)) c.level-start.ensures.level c.level_back-stop.ensures.level
    (record { from = from; ahead = c.in-Some.ahead; back = c.in-Some-ascent_back.back })
    (ap (λ (p : Point). p.y) c.point_at-from.ensures) c.in-Some.ensures.ascent c.in-Some-ascent_back.ensures.ascent
    c.in-Some-ascent_back.ensures.after
    (omega (arith, some, c.lowest-low.ensures, c.in-Some-ascent_back.ensures.before, c.level_back-stop.ensures.before)))

pub returns-clause-rest : goal.returns-clause-rest
returns-clause-rest c =
    let points = c.args.points.now in
    let low = c.lowest-low.result in
    let from = c.point_at-from.result.y in
    let fits : FitsSigned w64 from = search rules in
    subst (λ (y : ℤ). (t : Tile)
    → rest_of (twice_round points) (record { from = y; ahead = c.in-Some.ahead; back = c.in-Some-ascent_back.back }) y t ≡ winding points t)
    (sym (to_z-of_z w64 from fits))
    (first_rest points low (low + (length points - 1)) c.level-start.result c.level_back-stop.result c.requires c.lowest-low.ensures
    (omega (arith, c.lowest-low.ensures)) c.level-start.ensures.level c.level_back-stop.ensures.level
    (record { from = from; ahead = c.in-Some.ahead; back = c.in-Some-ascent_back.back })
    (ap (λ (p : Point). p.y) c.point_at-from.ensures) c.in-Some.ensures.ascent c.in-Some-ascent_back.ensures.ascent)
