use Rattle.std.proofs.Common.{◌^◌, sym, subst}
use Rattle.half_grid.specs.Reach.{IsPointWithinReach}
use Rattle.layout_model.specs.Hulls.{IsInBox}
use Rattle.flat_walk.proofs.BoxLemmas.{four_in, four_near}
use Rattle.flat_walk.proofs.boxes.box_of_quad.Goals as goal

pub returns-clause-around : goal.returns-clause-around
returns-clause-around c =
    four_in c.args.quad.now c.box_of.result c.box_of-2.result c.box_of-3.result c.box_of-4.result c.joined-left.result c.joined-right.result c.joined.result
    (subst (IsInBox c.box_of.result) c.a.ensures.value c.box_of.ensures.inside) (subst (IsInBox c.box_of-2.result) c.b.ensures.value c.box_of-2.ensures.inside)
    (subst (IsInBox c.box_of-3.result) c.c.ensures.value c.box_of-3.ensures.inside)
    (subst (IsInBox c.box_of-4.result) c.d.ensures.value c.box_of-4.ensures.inside)
    c.joined-left.ensures c.joined-right.ensures c.joined.ensures

pub returns-clause-near : goal.returns-clause-near
returns-clause-near c =
    let q = c.a.ensures.quad in
    four_near (2 ^ 44) c.box_of.result c.box_of-2.result c.box_of-3.result c.box_of-4.result c.joined-left.result c.joined-right.result c.joined.result
    (c.box_of.ensures.near (subst IsPointWithinReach (sym c.a.ensures.value) q.a))
    (c.box_of-2.ensures.near (subst IsPointWithinReach (sym c.b.ensures.value) q.b))
    (c.box_of-3.ensures.near (subst IsPointWithinReach (sym c.c.ensures.value) q.c))
    (c.box_of-4.ensures.near (subst IsPointWithinReach (sym c.d.ensures.value) q.d))
    c.joined-left.ensures c.joined-right.ensures c.joined.ensures
