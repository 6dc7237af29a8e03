use Rattle.std.proofs.Common.{FitsSigned, w64, rules}
use Rattle.std.proofs.lemmas.Int.{to_z-of_z}
use Rattle.density_map.proofs.ClipLemmas.{left_within, right_within, rows_counted}
use Rattle.density_map.proofs.tiles.tiles_of_rows.Goals as goal

pub tiles_before-requires-clause-line : goal.tiles_before-requires-clause-line
tiles_before-requires-clause-line c =
    right_within c.right-right.result c.args.trap.now c.args.frame.now c.args.rows c.right-right.ensures.value
    c.requires.rows c.right-right.ensures.shot

pub tiles_before-requires-2-clause-line : goal.tiles_before-requires-2-clause-line
tiles_before-requires-2-clause-line c =
    left_within c.left-left.result c.args.trap.now c.args.frame.now c.args.rows c.left-left.ensures.value
    c.requires.rows c.left-left.ensures.shot

pub tiles_before-requires-3-clause-line : goal.tiles_before-requires-3-clause-line
tiles_before-requires-3-clause-line c =
    left_within c.left-left.result c.args.trap.now c.args.frame.now c.args.rows c.left-left.ensures.value
    c.requires.rows c.left-left.ensures.shot

pub tiles_before-requires-4-clause-line : goal.tiles_before-requires-4-clause-line
tiles_before-requires-4-clause-line c =
    right_within c.right-right.result c.args.trap.now c.args.frame.now c.args.rows c.right-right.ensures.value
    c.requires.rows c.right-right.ensures.shot

pub overflow_sub-result : goal.overflow_sub-result
overflow_sub-result c =
    let f0 : FitsSigned w64 c.args.frame.now.x0 = search rules in
    let f1 : FitsSigned w64 c.args.frame.now.x1 = search rules in
    let r0 = simp to_z-of_z at c.tiles_before.ensures.value in
    let l1 = simp to_z-of_z at c.tiles_before-2.ensures.value in
    let l0 = simp to_z-of_z at c.tiles_before-3.ensures.value in
    let r1 = simp to_z-of_z at c.tiles_before-4.ensures.value in
    (rows_counted c.args.trap.now c.args.frame.now c.args.rows c.left-left.result c.right-right.result
    c.tiles_before.result c.tiles_before-2.result c.tiles_before-3.result c.tiles_before-4.result
    c.left-left.ensures.value c.right-right.ensures.value c.left-left.ensures.shot c.requires.rows r0 l1 l0 r1).order

pub returns : goal.returns
returns c =
    let f0 : FitsSigned w64 c.args.frame.now.x0 = search rules in
    let f1 : FitsSigned w64 c.args.frame.now.x1 = search rules in
    let r0 = simp to_z-of_z at c.tiles_before.ensures.value in
    let l1 = simp to_z-of_z at c.tiles_before-2.ensures.value in
    let l0 = simp to_z-of_z at c.tiles_before-3.ensures.value in
    let r1 = simp to_z-of_z at c.tiles_before-4.ensures.value in
    (rows_counted c.args.trap.now c.args.frame.now c.args.rows c.left-left.result c.right-right.result
    c.tiles_before.result c.tiles_before-2.result c.tiles_before-3.result c.tiles_before-4.result
    c.left-left.ensures.value c.right-right.ensures.value c.left-left.ensures.shot c.requires.rows r0 l1 l0 r1).value
