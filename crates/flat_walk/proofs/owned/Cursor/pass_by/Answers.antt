use Rattle.std.proofs.Common.{◌∙◌, ◌+◌, sym, ap, arith, refl, map, Some, drop}
use Rattle.layout_model.specs.ShapeLists.{shape_in}
use Rattle.flat_walk.specs.EntryLists.{entries_in}
use Rattle.flat_walk.specs.Hands.{shapes_left}
use Rattle.flat_walk.proofs.RestLemmas.{skip_same, skip_on}
use Rattle.flat_walk.proofs.CursorLemmas.{first_inside, list_over, next_list, next_shorter, next_steps}
use Rattle.flat_walk.proofs.owned.Cursor.pass_by.Goals as goal

pub loop-shape-init : goal.loop-shape-init
loop-shape-init c = record { cursor = c.requires; skips = skip_same c.args.window _ _ refl; steps = omega arith }

pub loop-shape-preserved : goal.loop-shape-preserved
loop-shape-preserved c =
    let s = c.pass_boxes.new.self in
    let i = c.loop-shape.invariant in
    let p = c.pass_boxes.ensures in
    let first = c.in-Some.ensures in
    record {
      cursor = c.skip.ensures.cursor;
      skips = skip_on c.args.window _ _ _ i.skips (skip_on c.args.window _ _ _ (p.skips c.args.pair) (skip_same c.args.window _ _ (ap (map Some)
          (list_over s.orient s.at c.args.pair (shapes_left s) (drop (s.number + 1) s.shapes.now) (shape_in c.in-Some.shape) (entries_in s.lists) s.place
          first.is (c.has_more.ensures.less c.if-has_more.false) ∙ sym (next_list c.args.pair s c.skip.new.self c.skip.ensures.next)))));
      steps = let h = next_steps s c.skip.new.self (shape_in c.in-Some.shape) first c.skip.ensures.next in omega (arith, h, p.steps, i.steps);
    }

pub loop-shape-smaller : goal.loop-shape-smaller
loop-shape-smaller c =
    let shorter = next_shorter c.pass_boxes.new.self c.skip.new.self (shape_in c.in-Some.shape) c.in-Some.ensures c.skip.ensures.next in
    omega (arith, shorter, c.pass_boxes.ensures.shorter)

pub skip-requires-clause-inside : goal.skip-requires-clause-inside
skip-requires-clause-inside c =
    let s = c.pass_boxes.new.self in
    first_inside s.number s.shapes.now (drop (s.number + 1) s.shapes.now) (shape_in c.in-Some.shape) c.in-Some.ensures.is

pub returns-then-is_empty-clause-skips : goal.returns-then-is_empty-clause-skips
returns-then-is_empty-clause-skips c = skip_on c.args.window _ _ _ c.loop-shape.invariant.skips (c.pass_boxes.ensures.skips c.args.pair)

pub returns-in_default-clause-skips : goal.returns-in_default-clause-skips
returns-in_default-clause-skips c = skip_on c.args.window _ _ _ c.loop-shape.invariant.skips (c.pass_boxes.ensures.skips c.args.pair)

pub returns-then-has_more-clause-skips : goal.returns-then-has_more-clause-skips
returns-then-has_more-clause-skips c = skip_on c.args.window _ _ _ c.loop-shape.invariant.skips (c.pass_boxes.ensures.skips c.args.pair)
