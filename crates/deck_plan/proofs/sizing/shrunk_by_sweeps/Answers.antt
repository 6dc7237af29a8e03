use Rattle.std.proofs.Common.{◌≡◌, ◌↔◌, ◌∷◌, [], ◌++◌, ◌^◌, flat_map, sym, subst, w64, FitsSigned, All, List}
use Rattle.std.proofs.lemmas.Int.{to_z-of_z}
use Rattle.std.proofs.lemmas.Result.{IfOk-weaker}
use Rattle.std.proofs.lemmas.List.Elements.{All-head, All-tail}
use Rattle.half_grid.specs.Nearness.{IsGrown, IsShrunk}
use Rattle.half_grid.specs.Trapezoids.{Trapezoid, IsInTrapezoid, IsLegal}
use Rattle.half_grid.specs.declared.plane.Tile.{Tile}
use Rattle.half_grid.specs.declared.extent.Frame.{Frame}
use Rattle.half_grid.specs.Windows.{RowRange}
use Rattle.square_size.specs.EdgeLaws.{IsInSome}
use Rattle.square_size.specs.Edges.{edges_of_grown}
use Rattle.tone_mirror.specs.Frames.{IsFrame, IsInFrame}
use Rattle.bool_ops.specs.declared.operations.Op.TheVariants.{Sub}
use Rattle.bool_ops.specs.Operations.{IsJoinedOf, IsInResult}
use Rattle.deck_plan.specs.Lists.{HasArea}
use Rattle.deck_plan.specs.Bounds.{wider, HasCornersUpTo, IsAround}
use Rattle.deck_plan.proofs.Boxes.{wider_frame, near_in_wider}
use Rattle.deck_plan.proofs.Sizes.{shrunk_has, rings_balanced, outside_near, empty_shrunk, no_items}
use Rattle.deck_plan.proofs.GrowthLemmas.{shrunk_left}
use Rattle.deck_plan.proofs.sizing.shrunk_by_sweeps.Goals as goal

pub returns-in_default : goal.returns-in_default
returns-in_default c =
    empty_shrunk c.args.dx c.args.dy c.requires.sizing.rectangle c.args.traps.now c.new.result.items c.args.window
    (no_items c.args.traps.now c.in_default.ensures.cases) c.new.ensures.items

pub hull_from-requires-clause-first : goal.hull_from-requires-clause-first
hull_from-requires-clause-first c =
    All-head (HasCornersUpTo (2 ^ 42)) c.in-Some.first.now c.in-Some.rest.now (subst (All (HasCornersUpTo (2 ^ 42))) c.in-Some.ensures.cases.0 c.requires.near)

pub hull_from-requires-clause-rest : goal.hull_from-requires-clause-rest
hull_from-requires-clause-rest c =
    All-tail (HasCornersUpTo (2 ^ 42)) c.in-Some.first.now c.in-Some.rest.now (subst (All (HasCornersUpTo (2 ^ 42))) c.in-Some.ensures.cases.0 c.requires.near)

pub frame_trap-requires : goal.frame_trap-requires
frame_trap-requires c =
    let dx : FitsSigned w64 c.args.dx = c.ranges.dx in
    let dy : FitsSigned w64 c.args.dy = c.ranges.dy in
    let is = simp to_z-of_z at c.wider.ensures in
    subst IsFrame (sym is) (wider_frame c.args.dx c.args.dy c.hull_from.result c.requires.sizing c.hull_from.ensures.full)

pub put_rings-requires-clause-near : goal.put_rings-requires-clause-near
put_rings-requires-clause-near c =
    let dx : FitsSigned w64 c.args.dx = c.ranges.dx in
    let dy : FitsSigned w64 c.args.dy = c.ranges.dy in
    let is = simp to_z-of_z at c.wider.ensures in
    let tiles = subst (λ (frame : Frame). (t : Tile) → IsInTrapezoid c.frame_trap.result t ↔ IsInFrame frame t) is c.frame_trap.ensures.tiles in
    subst (All (HasCornersUpTo (2 ^ 43))) (sym c.as_slice.ensures.value)
    (outside_near c.args.dx c.args.dy c.hull_from.result c.requires.sizing c.hull_from.ensures.full c.frame_trap.result
    tiles c.args.traps.now c.widened.result c.in_ok-outside.outside.items c.in_ok-outside.ensures)

pub left_over_within-requires : goal.left_over_within-requires
left_over_within-requires c =
    let dx : FitsSigned w64 c.args.dx = c.ranges.dx in
    let dy : FitsSigned w64 c.args.dy = c.ranges.dy in
    let put = simp to_z-of_z at c.in_ok-put_rings.ensures in
    let edges = subst (λ (list : List Trapezoid). c.put_rings.new.edges.items ≡ c.in_ok-edges.edges.items ++ flat_map
    (edges_of_grown c.args.dx c.args.dy) list) c.as_slice.ensures.value put in
    rings_balanced c.args.dx c.args.dy c.requires.sizing.rectangle c.frame_trap.result c.in_ok-outside.outside.items
    c.in_ok-outside.ensures.joined.legal c.args.window c.in_ok-edges.edges.items c.put_rings.new.edges.items
    c.in_ok-edges.ensures.a c.in_ok-edges.ensures.b edges (c.in_ok-edges.ensures.balanced c.args.window)

pub returns-in-Some-2 : goal.returns-in-Some-2
returns-in-Some-2 c =
    let dx : FitsSigned w64 c.args.dx = c.ranges.dx in
    let dy : FitsSigned w64 c.args.dy = c.ranges.dy in
    let is = simp to_z-of_z at c.wider.ensures in
    let rows = simp to_z-of_z at c.widened.ensures in
    let tiles = subst (λ (frame : Frame). (t : Tile) → IsInTrapezoid c.frame_trap.result t ↔ IsInFrame frame t) is c.frame_trap.ensures.tiles in
    let around = near_in_wider c.args.dx c.args.dy c.hull_from.result c.args.traps.now
    (subst (All (IsAround c.hull_from.result)) (sym c.in-Some.ensures.cases.0) c.hull_from.ensures.around) in
    let outside = subst (λ (w : RowRange). IsJoinedOf w
    (IsInResult Sub (c.frame_trap.result ∷ []) c.args.traps.now w) c.in_ok-outside.outside.items) rows
    c.in_ok-outside.ensures in
    let put = simp to_z-of_z at c.in_ok-put_rings.ensures in
    let edges = subst (λ (list : List Trapezoid). c.put_rings.new.edges.items ≡ c.in_ok-edges.edges.items ++ flat_map
    (edges_of_grown c.args.dx c.args.dy) list) c.as_slice.ensures.value put in
    shrunk_has c.args.dx c.args.dy c.requires.sizing.rectangle c.frame_trap.result
    c.in_ok-outside.outside.items c.in_ok-outside.ensures.joined.legal c.args.window c.in_ok-edges.edges.items
    c.put_rings.new.edges.items
    c.in_ok-edges.ensures.a c.in_ok-edges.ensures.b edges c.args.traps.now
    (wider c.args.dx c.args.dy c.hull_from.result) tiles around outside c.in-Some-2.area.items (rw c.in-Some-2.is at c.in_ok-area.ensures.joined)

pub piled_growth-requires-clause-legal : goal.piled_growth-requires-clause-legal
piled_growth-requires-clause-legal c = subst (All IsLegal) (sym c.as_slice-in-None.ensures.value) c.in_ok-outside.ensures.joined.legal

pub piled_growth-requires-clause-near : goal.piled_growth-requires-clause-near
piled_growth-requires-clause-near c =
    let dx : FitsSigned w64 c.args.dx = c.ranges.dx in
    let dy : FitsSigned w64 c.args.dy = c.ranges.dy in
    let is = simp to_z-of_z at c.wider.ensures in
    let tiles = subst (λ (frame : Frame). (t : Tile) → IsInTrapezoid c.frame_trap.result t ↔ IsInFrame frame t) is c.frame_trap.ensures.tiles in
    subst (All (HasCornersUpTo (2 ^ 43))) (sym c.as_slice-in-None.ensures.value)
    (outside_near c.args.dx c.args.dy c.hull_from.result c.requires.sizing c.hull_from.ensures.full c.frame_trap.result
    tiles c.args.traps.now c.widened.result c.in_ok-outside.outside.items c.in_ok-outside.ensures)

pub returns : goal.returns
returns c =
    let dx : FitsSigned w64 c.args.dx = c.ranges.dx in
    let dy : FitsSigned w64 c.args.dy = c.ranges.dy in
    let is = simp to_z-of_z at c.wider.ensures in
    let rows = simp to_z-of_z at c.widened.ensures in
    let tiles = subst (λ (frame : Frame). (t : Tile) → IsInTrapezoid c.frame_trap.result t ↔ IsInFrame frame t) is c.frame_trap.ensures.tiles in
    let around = near_in_wider c.args.dx c.args.dy c.hull_from.result c.args.traps.now
    (subst (All (IsAround c.hull_from.result)) (sym c.in-Some.ensures.cases.0) c.hull_from.ensures.around) in
    let outside = subst (λ (w : RowRange). IsJoinedOf w
    (IsInResult Sub (c.frame_trap.result ∷ []) c.args.traps.now w) c.in_ok-outside.outside.items) rows
    c.in_ok-outside.ensures in
    let grown = subst (λ (list : List Trapezoid). HasArea c.args.window (IsGrown c.args.dx c.args.dy (IsInSome list)) c.in_ok-grown-in-None.grown.items)
    c.as_slice-in-None.ensures.value (simp to_z-of_z at c.in_ok-grown-in-None.ensures) in
    IfOk-weaker c.combine-in-None.result _ (λ shrunk. HasArea c.args.window (IsShrunk c.args.dx c.args.dy (IsInSome c.args.traps.now)) shrunk.items)
    (λ shrunk joined. shrunk_left c.args.dx c.args.dy c.requires.sizing.rectangle c.frame_trap.result c.args.traps.now c.in_ok-outside.outside.items
    c.in_ok-grown-in-None.grown.items c.args.window (wider c.args.dx c.args.dy c.hull_from.result) tiles around outside grown shrunk.items
    (subst (λ (list : List Trapezoid). IsJoinedOf c.args.window (IsInResult Sub (c.frame_trap.result ∷ []) list c.args.window) shrunk.items)
    c.as_slice-in-None-2.ensures.value joined))
    c.combine-in-None.ensures
