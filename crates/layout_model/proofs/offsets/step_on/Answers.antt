use Rattle.std.proofs.Common.{◌<◌, sym, subst, w64, arith}
use Rattle.std.proofs.lemmas.Int.{to_z-of_z}
use Rattle.layout_model.specs.Strides.{IsNearby}
use Rattle.layout_model.proofs.StrideLemmas.{near_fits}
use Rattle.layout_model.proofs.RulerLemmas.{one_step}
use Rattle.layout_model.proofs.offsets.step_on.Goals as goal

pub returns-clause-near : goal.returns-clause-near
returns-clause-near c =
    let some = c.requires.some in
    let other = c.if-count-eq1.false in
    let near : IsNearby c.of.result = subst IsNearby (sym c.of.ensures) (one_step _ (c.requires.reach 1 (let h : 1 < c.args.count = omega arith in h))) in
    rw (to_z-of_z w64 c.of.result (near_fits c.of.result near)) near
