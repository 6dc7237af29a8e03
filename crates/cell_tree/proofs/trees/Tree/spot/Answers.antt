use Rattle.std.proofs.Common.{◌≡◌, ◌∙◌, ◌<◌, ◌^◌, Some, None, length, map, slice_get, refl, sym, ap, subst, arith}
use Rattle.std.proofs.lemmas.Option.{same_Some, slice_get_read}
use Rattle.layout_model.specs.Hulls.{IsInBox}
use Rattle.layout_model.specs.Images.{image_of, moved}
use Rattle.layout_model.specs.Layouts.{IsWithin, IsLayoutOnGrid, IsPlacementOnGrid}
use Rattle.layout_model.specs.declared.cells.Placement.{Placement}
use Rattle.cell_tree.specs.Cells.{placements_at, targets_at}
use Rattle.cell_tree.specs.Trees.{IsTree}
use Rattle.cell_tree.specs.HullTables.{AreHullsBelow, whole_from}
use Rattle.cell_tree.proofs.FactorLemmas.{on_grid}
use Rattle.cell_tree.proofs.SlotLemmas.{All-slot}
use Rattle.cell_tree.proofs.SpotLemmas.{spot_near, spot_reached, vertex_in}
use Rattle.cell_tree.proofs.TreeLemmas.{hulls_read, target_value, target_inside}
use Rattle.cell_tree.proofs.trees.Tree.spot.Goals as goal

pub placed_box-requires : goal.placed_box-requires
placed_box-requires c =
    let cells = c.args.self.now.layout.cells in
    let k = c.args.placement in
    let grid = subst (λ r. IsLayoutOnGrid r.layout) c.self.view_is c.self.invariant.0 in
    let same = c.placements.ensures ∙ ap (λ r. placements_at r.layout.cells c.args.cell) c.self.view_is in
    let slot = subst (λ l. slice_get l k ≡ Some c.index-placements-placement.result) same
    (slice_get_read c.placements.result.now _ k c.index-placements-placement.result refl
    (subst (λ l. k < length l) (sym same) c.requires.placement) c.index-placements-placement.is) in
    All-slot (placements_at cells c.args.cell) IsPlacementOnGrid (on_grid cells grid.cells c.args.cell) k c.index-placements-placement.result slot

pub returns-in-Some-whole_hull-clause-around : goal.returns-in-Some-whole_hull-clause-around
returns-in-Some-whole_hull-clause-around c = λ placed p reach here s.
    let now = c.args.self.now in
    let cells = now.layout.cells in
    let n = c.args.cell in
    let k = c.args.placement in
    let m = c.in-Some.target in
    let grid = subst (λ r. IsLayoutOnGrid r.layout) c.self.view_is c.self.invariant.0 in
    let tree = subst (λ r. IsTree r.layout.cells r.top) c.self.view_is c.self.invariant.2 in
    let same = c.placements.ensures ∙ ap (λ r. placements_at r.layout.cells n) c.self.view_is in
    let slot = subst (λ l. slice_get l k ≡ Some c.index-placements-placement.result) same
    (slice_get_read c.placements.result.now _ k c.index-placements-placement.result refl
    (subst (λ l. k < length l) (sym same) c.requires.placement) c.index-placements-placement.is) in
    let one : c.index-placements-placement.result ≡ placed = same_Some c.index-placements-placement.result placed (sym slot ∙ here) in
    let shown = c.targets.ensures.value ∙ ap (λ r. targets_at r.layout.cells n) c.self.view_is in
    let target = target_value cells n k m c.targets.result.now placed shown c.in-Some.is here in
    let inside = target_inside cells n k m c.targets.result.now shown c.requires.placement c.in-Some.is in
    let cells_same = ap (λ r. length r.layout.cells) c.self.view_is in
    let long = c.self.invariant.3 in
    let within : m < length c.self.inside.hulls.items = omega arith in
    let are = hulls_read (λ list. list.items) cells now.top m c.self.inside.hulls.items c.index.result.now within c.index.ensures
    (subst (λ r. AreHullsBelow r.layout.cells r.top (map (λ list. list.items) c.self.inside.hulls.items)) c.self.view_is c.self.invariant.4)
    (spot_reached cells now.top n k placed grid.cells tree reach here m target) in
    let whole : whole_from None c.index.result.now.items ≡ Some c.in-Some-whole_hull.hull = sym
    (ap (whole_from None) c.as_slice.ensures.value) ∙ (sym c.whole_hull.ensures ∙ c.in-Some-whole_hull.is) in
    let e = ap (λ (q : Placement). image_of q.orient (moved s.by q.at) s.v) one ∙ s.is in
    subst (IsInBox c.placed_box.result) e (c.placed_box.ensures.around s.place s.by s.v
    (subst (λ (q : Placement). slice_get q.offsets s.place ≡ Some s.by) (sym one) s.offset)
    (vertex_in cells m c.index.result.now.items c.in-Some-whole_hull.hull placed p s target are whole)
    (subst (IsWithin (2 ^ 53)) (sym e) (spot_near cells now.top n k placed grid.cells tree reach here p s)))

pub returns-in-None-clause-around : goal.returns-in-None-clause-around
returns-in-None-clause-around c = λ placed p reach here s.
    let now = c.args.self.now in
    let grid = subst (λ r. IsLayoutOnGrid r.layout) c.self.view_is c.self.invariant.0 in
    let tree = subst (λ r. IsTree r.layout.cells r.top) c.self.view_is c.self.invariant.2 in
    c.wide-in-None.ensures.around p (spot_near now.layout.cells now.top c.args.cell c.args.placement placed grid.cells tree reach here p s)
