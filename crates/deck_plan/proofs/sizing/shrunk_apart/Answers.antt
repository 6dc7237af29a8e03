use Rattle.std.proofs.Common.{◌≡◌, ◌↔◌, ◌⊎◌, ◌^◌, ℤ, pos, ◌≤ℤ◌, List, All, w64, FitsSigned, to_z, sym, subst, ap, arith}
use Rattle.std.proofs.lemmas.Int.{to_z-of_z, ints}
use Rattle.half_grid.specs.Nearness.{IsShrunk}
use Rattle.half_grid.specs.Trapezoids.{Trapezoid, IsLegal}
use Rattle.half_grid.specs.declared.plane.Tile.{Tile}
use Rattle.square_size.specs.EdgeLaws.{IsInSome}
use Rattle.bool_ops.specs.declared.operations.Op.TheVariants.{Or}
use Rattle.bool_ops.specs.Operations.{IsJoinedOf, IsInResult}
use Rattle.deck_plan.specs.Bounds.{HasCornersUpTo}
use Rattle.deck_plan.specs.Lists.{HasArea}
use Rattle.deck_plan.proofs.GrowthLemmas.{apart_shrunk, all_among}
use Rattle.deck_plan.proofs.sizing.shrunk_apart.Goals as goal

pub shrink_lone-requires-clause-low : goal.shrink_lone-requires-clause-low
shrink_lone-requires-clause-low c =
    let dx : FitsSigned w64 c.args.dx = c.ranges.dx in
    let some = simp to_z-of_z at c.if-dx-lt1.false in
    simp to_z-of_z (omega (arith, ints, some))

pub shrunk_by_sweeps-requires-clause-legal : goal.shrunk_by_sweeps-requires-clause-legal
shrunk_by_sweeps-requires-clause-legal c =
    subst (All IsLegal) (sym c.as_slice.ensures.value)
    (all_among IsLegal c.args.traps.now c.in-Some.parted.rest.items (rw c.in-Some.is at c.in_ok-parted.ensures.rest) c.requires.legal)

pub shrunk_by_sweeps-requires-clause-near : goal.shrunk_by_sweeps-requires-clause-near
shrunk_by_sweeps-requires-clause-near c =
    subst (All (HasCornersUpTo (2 ^ 42))) (sym c.as_slice.ensures.value)
    (all_among (HasCornersUpTo (2 ^ 42)) c.args.traps.now c.in-Some.parted.rest.items (rw c.in-Some.is at c.in_ok-parted.ensures.rest) c.requires.near)

pub returns : goal.returns
returns c =
    let dx : FitsSigned w64 c.args.dx = c.ranges.dx in
    let dy : FitsSigned w64 c.args.dy = c.ranges.dy in
    let same : c.args.dx ≡ c.args.dy = simp to_z-of_z at (ap (to_z w64) c.if-dx-dy.false) in
    let traps = c.args.traps.now in
    let lone = c.in-Some.parted.shrunk.items in
    let rest = c.in-Some.parted.rest.items in
    let parted = simp to_z-of_z at (rw c.in-Some.is at c.in_ok-parted.ensures.left) in
    let left = simp to_z-of_z at c.in_ok-rest.ensures in
    apart_shrunk c.args.dx c.args.dy traps lone rest c.in_ok-rest.rest.items c.in_ok-area.area.items c.args.window
    (subst (λ (d : ℤ). (t : Tile) → IsShrunk c.args.dx d (IsInSome traps) t ↔ (IsInSome lone t ⊎ IsShrunk c.args.dx d (IsInSome rest) t)) same parted)
    (subst (λ (list : List Trapezoid). HasArea c.args.window (IsShrunk c.args.dx c.args.dy (IsInSome list)) c.in_ok-rest.rest.items)
    c.as_slice.ensures.value left)
    (rw (c.as_slice-2.ensures.value, c.as_slice-3.ensures.value) at c.in_ok-area.ensures)
