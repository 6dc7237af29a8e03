use Rattle.std.proofs.Common.{rules, FitsSigned, ◌∙◌, ℤ, sym, subst, arith}
use mir.Syntax.{w64}
use Rattle.std.proofs.lemmas.Int.{to_z-of_z}
use Rattle.bool_ops.specs.Monotone.{twice_round, IsWayFrom, IsNextClimb}
use Rattle.bool_ops.proofs.ClimbLemmas.{next_is, fewer_between}
use Rattle.bool_ops.proofs.climbs.next_climb.Goals as goal

pub returns : goal.returns
returns c =
    let ring = twice_round c.args.points.now in
    let old = c.args.climb.now in
    let ahead = c.in-Some.ahead in
    let back = c.in-Some-next_back.back in
    let from = c.top_of-from.result in
    let fits : FitsSigned w64 from = search rules in
    let same = to_z-of_z w64 from fits in
    subst (λ (y : ℤ). IsNextClimb ring old (record { from = y; ahead = ahead; back = back })) (sym same)
    (next_is ring old (record { from = from; ahead = ahead; back = back }) c.requires c.top_of-from.ensures c.in-Some-next_back.ensures.after
    (omega (arith, c.in-Some-next_back.ensures.before, c.requires.within))
    (fewer_between old.ahead.at old.back.at ahead.at back.at from old.ahead.top old.back.top c.top_of-from.ensures
    (λ e. c.in-Some.ensures.fewer (same ∙ e)) (λ e. c.in-Some-next_back.ensures.fewer (same ∙ e))
    c.in-Some.ensures.after c.in-Some-next_back.ensures.before c.in-Some-next_back.ensures.after)
    (subst (λ (y : ℤ). IsWayFrom ring y old.ahead ahead) same c.in-Some.ensures.way)
    (subst (λ (y : ℤ). IsWayFrom ring y old.back back) same c.in-Some-next_back.ensures.way))
