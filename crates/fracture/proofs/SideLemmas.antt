-- The two sides of a shot: each is a side of its trapezoid, or a cut, beside which the trapezoid goes on.
use Rattle.std.proofs.Common.{◌≡◌, ℤ, pos, ◌+ℤ◌, ◌≤ℤ◌, ◌<ℤ◌, [], All, arith, refl, ap}
use Rattle.std.proofs.lemmas.Int.{ints}
use Rattle.std.proofs.lemmas.List.Elements.{All-nil, All-cons, All-contains, All-weaker}
use Rattle.std.specs.List.{Contains}
use mathlib.Core.Logic.{◌⊎◌, inl, inr}
use Rattle.half_grid.specs.Rows.{place, number_in_row}
use Rattle.half_grid.specs.Trapezoids.{Trapezoid, IsInTrapezoid, box_width}
use Rattle.half_grid.specs.declared.plane.Tile.{Tile}
use Rattle.half_grid.proofs.ForCallers.{legal_places, in_by_number}
use Rattle.fracture.specs.Limits.{AreLimits}
use Rattle.fracture.specs.Cutting.{leftmost_part, part_beyond, cut_by_width}
use Rattle.fracture.proofs.PartLemmas.{IsLow, beyond_is_low}
use Rattle.fracture.proofs.Recursions.{of_widths}
use Rattle.fracture.proofs.TileLemmas.{cut_right_of_left, cut_left_of_right, beyond_in}

-- the tiles just left, and just right, of y in the rows of z are in z
abbrev pub GoesOnLeft : Trapezoid → Trapezoid → Type 0
GoesOnLeft z y = (t : Tile) → z.y0 ≤ℤ t.j → t.j <ℤ z.y1 → (number_in_row t +ℤ pos 1) ≡ place y.left t.j → IsInTrapezoid z t

abbrev pub GoesOnRight : Trapezoid → Trapezoid → Type 0
GoesOnRight z y = (t : Tile) → z.y0 ≤ℤ t.j → t.j <ℤ z.y1 → number_in_row t ≡ place y.right t.j → IsInTrapezoid z t

pub record HasSides (z y : Trapezoid) : Type 0 where
  pub left : (y.left ≡ z.left) ⊎ GoesOnLeft z y
  pub right : (y.right ≡ z.right) ⊎ GoesOnRight z y

module _ (height width : ℤ) (limits : AreLimits height width) where
  module _ (z : Trapezoid) (s : IsLow height z) (over : width <ℤ box_width z) where
    first_sides : HasSides z (leftmost_part width z)
    first_sides = record {
      left = inl refl;
      right = inr (λ t a b n.
          (let beyond = (beyond_is_low height width limits z s over).shot.legal in
          in_by_number z t (record {
            above_bottom = a;
            below_top = b;
            from_left = omega (arith, ints, n, cut_right_of_left height width limits z s over t.j a b);
            below_right = omega (arith, ints, n, legal_places (part_beyond width z) t.j beyond a b);
          })));
    }

    begins_at_cut : (y : Trapezoid) → y.left ≡ (part_beyond width z).left → GoesOnLeft z y
    begins_at_cut y e t a b n =
        let at : place y.left t.j ≡ place (part_beyond width z).left t.j = ap (λ l. place l t.j) e in
        in_by_number z t (record {
          above_bottom = a;
          below_top = b;
          from_left = omega (arith, ints, n, at, cut_right_of_left height width limits z s over t.j a b);
          below_right = omega (arith, ints, n, at, cut_left_of_right height width limits z s over t.j a b);
        })

    later_left : (y : Trapezoid) → (y.left ≡ (part_beyond width z).left) ⊎ GoesOnLeft (part_beyond width z) y → (y.left ≡ z.left) ⊎ GoesOnLeft z y
    later_left y (inl e) = inr (begins_at_cut y e)
    later_left y (inr more) = inr (λ t a b n. beyond_in height width limits z s over t (more t a b n))

    later_right : (y : Trapezoid) → (y.right ≡ z.right) ⊎ GoesOnRight (part_beyond width z) y → (y.right ≡ z.right) ⊎ GoesOnRight z y
    later_right y (inl e) = inl e
    later_right y (inr more) = inr (λ t a b n. beyond_in height width limits z s over t (more t a b n))

    later_sides : (y : Trapezoid) → HasSides (part_beyond width z) y → HasSides z y
    later_sides y h = record { left = later_left y h.left; right = later_right y h.right }

  pub sides : (z : Trapezoid) → IsLow height z → All (HasSides z) (cut_by_width width z)
  sides = of_widths height width limits (λ z parts. All (HasSides z) parts)
      (λ z s h. All-cons (HasSides z) z [] (record { left = inl refl; right = inl refl }) (All-nil (HasSides z)))
      (λ z parts s h rest. All-cons (HasSides z) (leftmost_part width z) parts (first_sides z s h)
      (All-weaker (HasSides (part_beyond width z)) (HasSides z) (later_sides z s h) parts rest))

  pub sides_of : (z y : Trapezoid) → IsLow height z → Contains (cut_by_width width z) y → HasSides z y
  sides_of z y s at = All-contains (HasSides z) (cut_by_width width z) y (sides z s) at
