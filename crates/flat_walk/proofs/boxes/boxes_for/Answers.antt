use Rattle.std.proofs.Common.{◌≡◌, sym, subst, arith, length, Some, slice_get}
use Rattle.layout_model.specs.Layouts.{IsShapeOnGrid}
use Rattle.layout_model.specs.ShapeLists.{shape_in}
use Rattle.flat_walk.specs.Boxes.{AreBoxed}
use Rattle.flat_walk.specs.EntryLists.{entries_in}
use Rattle.flat_walk.specs.Kept.{all_lists}
use Rattle.flat_walk.specs.PieceLists.{listed}
use Rattle.flat_walk.specs.Stores.{entry_in}
use Rattle.flat_walk.proofs.RestLemmas.{slot_all}
use Rattle.flat_walk.proofs.BoxLemmas.{boxed_none, boxed_more}
use Rattle.flat_walk.proofs.BlockLemmas.{has_round}
use Rattle.flat_walk.proofs.EntryLemmas.{single_inside, single_slot}
use Rattle.flat_walk.proofs.boxes.boxes_for.Goals as goal

pub loop-boxes-init : goal.loop-boxes-init
loop-boxes-init c =
    let lists = all_lists (entries_in c.args.entries.list) in
    subst (AreBoxed c.args.shapes.now lists) (sym c.in_ok-boxes.ensures.items) (boxed_none c.args.shapes.now lists)

pub loop-boxes-preserved : goal.loop-boxes-preserved
loop-boxes-preserved c =
    let entries = entries_in c.args.entries.list in
    let lists = all_lists entries in
    let pieces = listed c.entry_at.result.pieces in
    let k : c.len-number.result ≡ length c.loop-boxes.boxes.items = omega (arith, c.len-number.ensures, c.loop-boxes.boxes.ok) in
    let here = subst (λ k. slice_get c.args.shapes.now k ≡ Some (shape_in c.get.result)) k c.get.ensures in
    let slot = single_slot c.args.entries.single c.len-number.result entries (entry_in c.entry_at.result) c.requires.single
    (omega (arith, c.loop-boxes-test.true)) c.entry_at.ensures.there in
    let there = subst (λ k. slice_get lists k ≡ Some pieces) k slot in
    subst (AreBoxed c.args.shapes.now lists) (sym c.in_ok-push.ensures.items)
    (boxed_more c.args.shapes.now lists c.loop-boxes.boxes.items (shape_in c.get.result)
    pieces c.round.result c.loop-boxes.invariant here there
    (has_round (shape_in c.get.result) pieces c.round.result c.box_of_shape-around.result
    c.round.ensures.around c.round.ensures.near c.box_of_shape-around.ensures))

pub entry_at-requires : goal.entry_at-requires
entry_at-requires c =
    let few = single_inside c.args.entries.single (entries_in c.args.entries.list) c.requires.single in
    omega (arith, few, c.loop-boxes-test.true)

pub box_of_shape-around-requires-clause-grid : goal.box_of_shape-around-requires-clause-grid
box_of_shape-around-requires-clause-grid c =
    slot_all IsShapeOnGrid c.args.shapes.now c.len-number.result (shape_in c.get.result) c.requires.grid c.get.ensures
