use Rattle.std.proofs.Common.{rules, FitsSigned, ap, sym, subst, ℤ, arith}
use mir.Syntax.{w64}
use Rattle.std.proofs.lemmas.Int.{ints, to_z-of_z}
use Rattle.half_grid.specs.declared.plane.Point.{Point}
use Rattle.bool_ops.specs.Monotone.{twice_round, IsAscent}
use Rattle.bool_ops.proofs.AscentLemmas.{ascent_is}
use Rattle.bool_ops.proofs.ascents.ascent_ahead.Goals as goal

pub returns-clause-ascent : goal.returns-clause-ascent
returns-clause-ascent c =
    let top = c.point_at-top.result.y in
    let fits : FitsSigned w64 top = search rules in
    subst (λ (y : ℤ). IsAscent (twice_round c.args.points.now) c.args.from (record { line = c.in-Some.line; top = y; at = c.level-at.result }))
    (sym (to_z-of_z w64 top fits))
    (ascent_is (twice_round c.args.points.now) c.args.from c.along-end.result _ c.point_at-low.result c.point_at-next.result
    (omega (arith, c.if-to-from.false, c.requires)) c.point_at-low.ensures c.point_at-next.ensures
    c.in-Some.ensures.through.0 c.in-Some.ensures.through.1 (omega (arith, ints, c.if-next-low.false))
    c.along-end.ensures.along c.level-at.ensures.level (ap (λ (p : Point). p.y) c.point_at-top.ensures))
