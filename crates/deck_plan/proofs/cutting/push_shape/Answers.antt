use Rattle.std.proofs.Common.{[], inl, inr, refl}
use Rattle.layout_model.specs.ShapeLists.{shape_in}
use Rattle.deck_plan.proofs.PieceLemmas.{shape_on_grid}
use Rattle.deck_plan.proofs.cutting.push_shape.Goals as goal

pub cut_shape-requires-clause-grid : goal.cut_shape-requires-clause-grid
cut_shape-requires-clause-grid c = shape_on_grid c.args.shapes.now c.requires.grid c.args.number (shape_in c.get-shape.result) c.get-shape.ensures

pub returns-then-is_given_again : goal.returns-then-is_given_again
returns-then-is_given_again c = record {
  shape = shape_in c.get-shape.result;
  here = c.get-shape.ensures;
  pieces = [];
  covers = inr (refl, c.is_given_again.ensures c.if-is_given_again.true (shape_in c.get-shape.result) c.get-shape.ensures);
  is = c.in_ok-push.ensures.ok;
}

pub returns : goal.returns
returns c = let pushed = c.in_ok-cut_shape.ensures in record {
  shape = shape_in c.get-shape.result;
  here = c.get-shape.ensures;
  pieces = pushed.pieces;
  covers = inl pushed.covers;
  is = pushed.is;
}
