-- The outline of a rectangle: its edges, and its winding at each tile.
use Rattle.std.proofs.Common.{◌≡◌, pos, zero, suc, [], ◌∷◌, All, arith, refl, inl, inr}
use Rattle.std.proofs.lemmas.Int.{ints}
use Rattle.half_grid.specs.Outlines.{IsOnGrid, HasGridEdges}
use Rattle.half_grid.specs.Winding.{winding}
use Rattle.half_grid.specs.Trapezoids.{Trapezoid, trapezoid, IsLegal}
use Rattle.half_grid.specs.declared.plane.Tile.{Tile}
use Rattle.half_grid.specs.declared.plane.Line.TheVariants.{Upright}
use Rattle.half_grid.proofs.ForCallers.{ring_inside, ring_outside}
use Rattle.layout_model.specs.declared.rectangles.Rectangle.{Rectangle}
use Rattle.layout_model.specs.Paths.{rectangle_ring}
use Rattle.layout_model.specs.PathBounds.{HasTiles}
use Rattle.layout_model.specs.PathLaws.{IsInRectangle}

four : {A : Type 0} (P : A → Type 0) (a b c e : A) → P a → P b → P c → P e → All P (a ∷ b ∷ c ∷ e ∷ [])
four P a b c e pa pb pc pe zero d lt = pa
four P a b c e pa pb pc pe (suc zero) d lt = pb
four P a b c e pa pb pc pe (suc (suc zero)) d lt = pc
four P a b c e pa pb pc pe (suc (suc (suc zero))) d lt = pe
four P a b c e pa pb pc pe (suc (suc (suc (suc k)))) d lt = absurd (omega (arith, lt))

pub ring_on_grid : (r : Rectangle) → HasGridEdges (rectangle_ring r)
ring_on_grid r = four IsOnGrid _ _ _ _ (inr (Upright r.x0, refl, refl)) (inl refl) (inr (Upright r.x1, refl, refl)) (inl refl)

-- the rectangle as a trapezoid
abbrev sides : Rectangle → Trapezoid
sides r = trapezoid r.y0 r.y1 (Upright r.x0) (Upright r.x1)

sides_legal : (r : Rectangle) → HasTiles r → IsLegal (sides r)
sides_legal r h = record {
  has_rows = h.rows;
  bottom = omega (arith, ints, h.columns);
  top = omega (arith, ints, h.columns);
  not_flat = omega (arith, ints, h.columns);
}

pub ring_winds_inside : (r : Rectangle) (t : Tile) → HasTiles r → IsInRectangle r t → winding (rectangle_ring r) t ≡ pos 1
ring_winds_inside r t h i = ring_inside (sides r) t (sides_legal r h) (record {
  above_bottom = i.bottom;
  below_top = i.top;
  right_of_left = i.left;
  left_of_right = i.right;
})

pub ring_winds_not_outside : (r : Rectangle) (t : Tile) → HasTiles r → (IsInRectangle r t → ⊥) → winding (rectangle_ring r) t ≡ pos 0
ring_winds_not_outside r t h out = ring_outside (sides r) t (sides_legal r h) (λ i. out (record {
  left = i.right_of_left;
  right = i.left_of_right;
  bottom = i.above_bottom;
  top = i.below_top;
}))
