use Rattle.std.proofs.Common.{◌≡◌, subst, arith}
use Rattle.layout_model.specs.Layouts.{IsShapeOnGrid}
use Rattle.layout_model.specs.ShapeLists.{shape_in}
use Rattle.layout_model.specs.declared.pair.Pair.{Pair}
use Rattle.cell_tree.specs.HullTables.{AreFirstHulls, widened_list}
use Rattle.cell_tree.proofs.SlotLemmas.{All-slot}
use Rattle.cell_tree.proofs.OwnLemmas.{own_more}
use Rattle.cell_tree.proofs.hulls.widen_between.Goals as goal

pub loop-number-preserved : goal.loop-number-preserved
loop-number-preserved c =
    own_more c.args.shapes.now c.loop-number.number (shape_in c.get-shape.result) c.shape_hull.result c.loop-number.hulls.items c.widen.new.hulls.items
    c.get-shape.ensures
    c.shape_hull.ensures
    (subst (λ (pair : Pair). c.widen.new.hulls.items ≡ widened_list c.loop-number.hulls.items pair c.shape_hull.result) c.pair.ensures c.in_ok-widen.ensures)
    c.loop-number.invariant

pub returns : goal.returns
returns c =
    let e : c.loop-number.number ≡ c.args.end = omega (arith, c.loop-number-test.false, c.requires.order) in
    subst (λ n. AreFirstHulls c.args.shapes.now n c.loop-number.hulls.items) e c.loop-number.invariant

pub shape_hull-requires : goal.shape_hull-requires
shape_hull-requires c =
    All-slot c.args.shapes.now IsShapeOnGrid c.requires.grid c.loop-number.number (shape_in c.get-shape.result) c.get-shape.ensures
