use Rattle.std.proofs.Common.{◌∙◌, ◌^◌, ap, sym, subst, ◌∷◌, ◌++◌, [], append_assoc}
use Rattle.cell_tree.specs.Boxes.{IsBoxUpTo}
use Rattle.flat_walk.specs.Boxes.{IsQuadIn}
use Rattle.flat_walk.specs.PieceLists.{listed}
use Rattle.flat_walk.proofs.BoxLemmas.{one_in, more_in, near_both}
use Rattle.flat_walk.proofs.boxes.box_of_pieces.Goals as goal

pub loop-quad-init : goal.loop-quad-init
loop-quad-init c =
    let first = c.in-Some.ensures.next in
    record {
      shots = c.in-Some.ensures.shots;
      around = (
        first.piece ∷ [],
        first.is,
        one_in c.box_of_quad-around.result first.piece (subst (IsQuadIn c.box_of_quad-around.result) first.corners c.box_of_quad-around.ensures.around),
      );
      near = c.box_of_quad-around.ensures.near;
    }

pub loop-quad-preserved : goal.loop-quad-preserved
loop-quad-preserved c =
    let next = c.in-Some-next.ensures.next in
    let before = c.loop-quad.invariant.around in
    record {
      shots = c.in-Some-next.ensures.shots;
      around = (
        before.0 ++ next.piece ∷ [],
        before.1 ∙ (ap (λ l. before.0 ++ l) next.is ∙ sym (append_assoc before.0 (next.piece ∷ []) (listed c.next-in-loop-quad.new.self))),
        more_in c.loop-quad.around c.box_of_quad.result c.joined-around.result before.0 next.piece before.2
            (subst (IsQuadIn c.box_of_quad.result) next.corners c.box_of_quad.ensures.around) c.joined-around.ensures,
      );
      near = subst (IsBoxUpTo (2 ^ 44)) (sym c.joined-around.ensures)
          (near_both (2 ^ 44) c.loop-quad.around c.box_of_quad.result c.loop-quad.invariant.near c.box_of_quad.ensures.near);
    }
