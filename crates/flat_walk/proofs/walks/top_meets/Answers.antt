use Rattle.std.proofs.Common.{subst, sym, Some, None}
use Rattle.cell_tree.specs.Boxes.{IsHull}
use Rattle.cell_tree.specs.Chains.{IsReachable}
use Rattle.cell_tree.specs.Flattening.{IsVertex}
use Rattle.cell_tree.proofs.ForCallers.{top_reachable}
use Rattle.flat_walk.specs.Ways.{cells_of}
use Rattle.flat_walk.proofs.WayLemmas.{box_within}
use Rattle.flat_walk.proofs.WalkLemmas.{top_hidden, top_bare}
use Rattle.flat_walk.proofs.walks.top_meets.Goals as goal

pub hull-requires : goal.hull-requires
hull-requires c =
    let sc = c.args.scene.now in
    subst (IsReachable (cells_of sc) sc.tree.now.top) (sym c.top.ensures.value) (top_reachable (cells_of sc) sc.tree.now.top)

pub rows_of-requires-clause-low : goal.rows_of-requires-clause-low
rows_of-requires-clause-low c =
    let sc = c.args.scene.now in
    let least = subst (λ n. IsHull (IsVertex (cells_of sc) n sc.pair) (Some c.in-Some.hull)) c.top.ensures.value c.in-Some.ensures in
    (box_within sc sc.tree.now.top c.in-Some.hull c.requires (top_reachable (cells_of sc) sc.tree.now.top) least).0

pub rows_of-requires-clause-high : goal.rows_of-requires-clause-high
rows_of-requires-clause-high c =
    let sc = c.args.scene.now in
    let least = subst (λ n. IsHull (IsVertex (cells_of sc) n sc.pair) (Some c.in-Some.hull)) c.top.ensures.value c.in-Some.ensures in
    (box_within sc sc.tree.now.top c.in-Some.hull c.requires (top_reachable (cells_of sc) sc.tree.now.top) least).1

pub returns-in_default : goal.returns-in_default
returns-in_default c = λ no.
    let sc = c.args.scene.now in
    top_bare sc c.requires (subst (λ n. IsHull (IsVertex (cells_of sc) n sc.pair) None) c.top.ensures.value c.in_default.ensures)

pub returns : goal.returns
returns c = λ no.
    let sc = c.args.scene.now in
    let least = subst (λ n. IsHull (IsVertex (cells_of sc) n sc.pair) (Some c.in-Some.hull)) c.top.ensures.value c.in-Some.ensures in
    top_hidden sc c.in-Some.hull c.rows_of.result.low c.rows_of.result.high c.raised-rows.result.low c.raised-rows.result.high c.meet.result c.requires least
    c.rows_of.ensures.between c.raised-rows.ensures.low c.raised-rows.ensures.high c.meet.ensures no
