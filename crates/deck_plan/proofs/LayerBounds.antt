-- Where the tiles of a layer are, by its vertices.
use Rattle.std.proofs.Common.{ℕ, ◌^◌, ℤ, pos, neg_ℤ, ◌≤ℤ◌, ◌<ℤ◌, List, [], ◌∷◌, Some, None}
use Rattle.std.proofs.Common.{All, Contains, Bool, true, false, int_le, if◌then◌else◌, IfSome, refl}
use Rattle.std.proofs.Common.{arith}
use Rattle.std.proofs.lemmas.Int.{ints, by_lt_z}
use Rattle.std.proofs.lemmas.List.Elements.{All-contains, recursion_from_All}
use Rattle.half_grid.specs.Outlines.{IsClosed, HasGridEdges, IsOnGrid}
use Rattle.half_grid.specs.Winding.{IsInPolygon, edges_of}
use Rattle.half_grid.specs.Windows.{RowRange, row_range}
use Rattle.half_grid.specs.declared.plane.Point.{Point}
use Rattle.half_grid.specs.declared.plane.Tile.{Tile}
use Rattle.half_grid.specs.declared.extent.Frame.{Frame}
use Rattle.half_grid.proofs.ForCallers.{closed_under, closed_over, closed_left, closed_right, i_low, i_high, le_yes}
use Rattle.trap_join.proofs.ForCallers.{all_members}
use Rattle.layout_model.specs.Layouts.{IsWithin}
use Rattle.layout_model.specs.declared.pair.Pair.{Pair}
use Rattle.layout_model.specs.declared.cells.Cell.{Cell}
use Rattle.cell_tree.specs.Flattening.{Flat, flattened, IsInLayer, IsVertex}
use Rattle.cell_tree.specs.Boxes.{IsHull}
use Rattle.cell_tree.specs.Trees.{AreVerticesNear}
use Rattle.bool_ops.specs.Operations.{IsInRows}
use Rattle.deck_plan.specs.Bounds.{IsTileUpTo}
use Rattle.deck_plan.specs.Extents.{IsInRowsOf, IsRowsUpTo, frame_rows}

-- a closed outline on the half grid
pub record IsOutline (points : List Point) : Type 0 where
  pub closed : IsClosed points
  pub grid : HasGridEdges points

module _ (points : List Point) (outline : IsOutline points) (t : Tile) (inside : IsInPolygon points t) where
  from_under : (y : ℤ) → All (λ p. y ≤ℤ p.y) points → y ≤ℤ t.j
  from_under y all = by_lt_z t.j y
      (λ lt. absurd (inside
      (closed_under points t y outline.closed (recursion_from_All (λ p. y ≤ℤ p.y) points all) lt))) (λ ge. ge)

  to_over : (y : ℤ) → All (λ p. p.y ≤ℤ y) points → t.j <ℤ y
  to_over y all = by_lt_z t.j y (λ lt. lt) (λ ge. absurd (inside (closed_over points t y outline.closed (recursion_from_All (λ p. p.y ≤ℤ y) points all) ge)))

  from_left : (x : ℤ) → All (λ p. x ≤ℤ p.x) points → x ≤ℤ t.i
  from_left x all =
      by_lt_z t.i x
      (λ lt. absurd (inside
      (closed_left points t x outline.closed (recursion_from_All (λ p. x ≤ℤ p.x) points all)
      (omega (arith, ints, i_low t, i_high t, lt)))))
      (λ ge. ge)

  to_right : (x : ℤ) → All (λ p. p.x ≤ℤ x) points → t.i <ℤ x
  to_right x all =
      by_lt_z t.i x
      (λ lt. lt)
      (λ ge. absurd (inside
      (closed_right points t x outline.closed (recursion_from_All (λ p. p.x ≤ℤ x) points all)
      (recursion_from_All IsOnGrid (edges_of points) outline.grid) (omega (arith, ints, i_low t, i_high t, ge)))))

  pub outline_near : ((p : Point) → Contains points p → IsWithin (2 ^ 30) p) → IsTileUpTo (2 ^ 30) t
  outline_near near =
      let left = from_left (neg_ℤ (pos (2 ^ 30))) (all_members (λ p. neg_ℤ (pos (2 ^ 30)) ≤ℤ p.x) points (λ p c. (near p c).x_low)) in
      let right = to_right (pos (2 ^ 30)) (all_members (λ p. p.x ≤ℤ pos (2 ^ 30)) points (λ p c. (near p c).x_high)) in
      let bottom = from_under (neg_ℤ (pos (2 ^ 30))) (all_members (λ p. neg_ℤ (pos (2 ^ 30)) ≤ℤ p.y) points (λ p c. (near p c).y_low)) in
      let top = to_over (pos (2 ^ 30)) (all_members (λ p. p.y ≤ℤ pos (2 ^ 30)) points (λ p c. (near p c).y_high)) in
      record {
        column = record { low = left; high = omega (arith, ints, right) };
        row = record { low = bottom; high = omega (arith, ints, top) };
      }

  pub outline_rows : (y0 y1 : ℤ) → ((p : Point) → Contains points p → (y0 ≤ℤ p.y) × (p.y ≤ℤ y1)) → IsInRows (row_range y0 y1) t
  outline_rows y0 y1 near = record {
    from = from_under y0 (all_members (λ p. y0 ≤ℤ p.y) points (λ p c. (near p c).0));
    below = to_over y1 (all_members (λ p. p.y ≤ℤ y1) points (λ p c. (near p c).1));
  }

some_point : (points : List Point) → IsClosed points → (p : Point) × Contains points p
some_point [] closed = absurd closed
some_point (p ∷ points) closed = (p, (0, omega arith, refl))

module _ (cells : List Cell) (top : ℕ) (outlines : All (λ flat. IsOutline flat.points) (flattened cells top))
    (pair : Pair) (t : Tile) (inside : IsInLayer cells top pair t) where
  flat : Flat
  flat = inside.1

  among : Contains (flattened cells top) inside.1
  among = (inside.0, inside.2, inside.3)

  outline : IsOutline inside.1.points
  outline = All-contains (λ flat. IsOutline flat.points) (flattened cells top) inside.1 outlines among

  vertex : (p : Point) → Contains inside.1.points p → IsVertex cells top pair p
  vertex p c = (inside.0, inside.1, inside.2, inside.3, (inside.4.0, c))

  pub layer_near : AreVerticesNear cells top → IsTileUpTo (2 ^ 30) t
  layer_near near = outline_near inside.1.points outline t inside.4.1 (λ p c. near pair p (vertex p c))

  in_frame_rows : (frame : Frame) → IsInRows (row_range frame.y0 frame.y1) t → IsInRowsOf (frame_rows frame) t
  in_frame_rows frame rows = rw (le_yes frame.y0 frame.y1 (omega (arith, ints, rows.from, rows.below))) rows

  pub hull_none : IsHull (IsVertex cells top pair) None → ⊥
  hull_none none = let p = some_point inside.1.points outline.closed in none p.0 (vertex p.0 p.1)

  pub hull_rows : (frame : Frame) → IsHull (IsVertex cells top pair) (Some frame) → IsInRowsOf (frame_rows frame) t
  hull_rows frame least =
      in_frame_rows frame
      (outline_rows inside.1.points outline t inside.4.1 frame.y0 frame.y1
      (λ p c. (let b = least.around p (vertex p c) in (b.bottom, b.top))))

rows_if : (b : Bool) (window : RowRange) → IsRowsUpTo (2 ^ 30) window → IfSome (if b then Some window else None) (IsRowsUpTo (2 ^ 30))
rows_if true window h = h
rows_if false window h = tt

pub hull_near : (cells : List Cell) (top : ℕ) (pair : Pair) (frame : Frame) → AreVerticesNear cells top
    → IsHull (IsVertex cells top pair) (Some frame) → IfSome (frame_rows frame) (IsRowsUpTo (2 ^ 30))
hull_near cells top pair frame near least =
    let b = least.bottom in
    let t = least.top in
    let low = near pair b.0 b.1 in
    let high = near pair t.0 t.1 in
    rows_if (int_le frame.y0 frame.y1) (row_range frame.y0 frame.y1) (record {
      low = record { low = omega (arith, ints, b.2, low.y_low); high = omega (arith, ints, b.2, low.y_high) };
      high = record { low = omega (arith, ints, t.2, high.y_low); high = omega (arith, ints, t.2, high.y_high) };
    })
