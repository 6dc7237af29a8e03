use Rattle.std.proofs.Common.{◌∷◌, take, sym, subst, arith}
use Rattle.std.proofs.lemmas.List.{take_more}
use Rattle.layout_model.specs.Hulls.{IsLeastBoxOf}
use Rattle.layout_model.proofs.HullLemmas.{box_grows}
use Rattle.layout_model.proofs.boxes.box_from.Goals as goal

pub loop-p-preserved : goal.loop-p-preserved
loop-p-preserved c =
    let grown = box_grows (c.args.first ∷ take c.loop-p.p-index c.args.rest.now) _ c.loop-p.hull c.box_with-hull.result c.loop-p.invariant
    c.box_with-hull.ensures.x0 c.box_with-hull.ensures.y0 c.box_with-hull.ensures.x1 c.box_with-hull.ensures.y1 in
    subst (λ xs. IsLeastBoxOf (c.args.first ∷ xs) c.box_with-hull.result) (sym (take_more c.args.rest.now c.loop-p.p-index _ (omega arith))) grown
