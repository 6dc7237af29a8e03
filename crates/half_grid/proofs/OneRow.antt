-- The trapezoid of one row between two lines: it is a shot where the left line's place is below the right line's, and
-- its tiles are the row's numbers from the one place up to below the other.
use Rattle.std.proofs.Common.{◌≡◌, Bool, true, false, ℤ, pos, ◌+ℤ◌, ◌-ℤ◌, ◌≤ℤ◌, ◌<ℤ◌, ◌&&◌, arith, refl, ap, ◌∙◌, int_le, int_lt}
use Rattle.std.proofs.lemmas.Int.{ints}
use Rattle.std.specs.Ordering.{int_eq}
use Rattle.half_grid.specs.Lines.{x_on, strip_along, first_strip}
use Rattle.half_grid.specs.Reach.{IsWithinReach}
use Rattle.half_grid.specs.Rows.{number_in_row, place, in_row}
use Rattle.half_grid.specs.Sides.{IsSide}
use Rattle.half_grid.specs.Trapezoids.{IsShot, trapezoid, trapezoid_has}
use Rattle.half_grid.specs.declared.plane.Tile.{Tile}
use Rattle.half_grid.specs.declared.plane.Line.{Line}
use Rattle.half_grid.specs.declared.plane.Line.TheVariants.{Upright, Rising, Falling}
use Rattle.half_grid.proofs.LineLemmas.{int_eq_true}
use Rattle.half_grid.proofs.Places.{right_by_place, place_at_most, number_below, left_by_place}
use Rattle.half_grid.proofs.SideLemmas.{shot_of_sides}

bottom_order : (l r : Line) (j : ℤ) → place l j <ℤ place r j → x_on l j ≤ℤ x_on r j
bottom_order (Upright c) (Upright d) j h = omega (arith, ints)
bottom_order (Upright c) (Rising d) j h = omega (arith, ints)
bottom_order (Upright c) (Falling d) j h = omega (arith, ints)
bottom_order (Rising c) (Upright d) j h = omega (arith, ints)
bottom_order (Rising c) (Rising d) j h = omega (arith, ints)
bottom_order (Rising c) (Falling d) j h = omega (arith, ints)
bottom_order (Falling c) (Upright d) j h = omega (arith, ints)
bottom_order (Falling c) (Rising d) j h = omega (arith, ints)
bottom_order (Falling c) (Falling d) j h = omega (arith, ints)

top_order : (l r : Line) (j : ℤ) → place l j <ℤ place r j → x_on l (j +ℤ pos 1) ≤ℤ x_on r (j +ℤ pos 1)
top_order (Upright c) (Upright d) j h = omega (arith, ints)
top_order (Upright c) (Rising d) j h = omega (arith, ints)
top_order (Upright c) (Falling d) j h = omega (arith, ints)
top_order (Rising c) (Upright d) j h = omega (arith, ints)
top_order (Rising c) (Rising d) j h = omega (arith, ints)
top_order (Rising c) (Falling d) j h = omega (arith, ints)
top_order (Falling c) (Upright d) j h = omega (arith, ints)
top_order (Falling c) (Rising d) j h = omega (arith, ints)
top_order (Falling c) (Falling d) j h = omega (arith, ints)

-- the X of a line at a row's bottom and top is half its place, but for a half
pub bottom_close : (l : Line) (j : ℤ) → ((place l j -ℤ pos 1) ≤ℤ (x_on l j +ℤ x_on l j)) × ((x_on l j +ℤ x_on l j) ≤ℤ (place l j +ℤ pos 1))
bottom_close (Upright c) j = (omega (arith, ints), omega (arith, ints))
bottom_close (Rising c) j = (omega (arith, ints), omega (arith, ints))
bottom_close (Falling c) j = (omega (arith, ints), omega (arith, ints))

pub top_close : (l : Line) (j : ℤ) → ((place l j -ℤ pos 1) ≤ℤ (x_on l (j +ℤ pos 1) +ℤ x_on l (j +ℤ pos 1)))
    × ((x_on l (j +ℤ pos 1) +ℤ x_on l (j +ℤ pos 1)) ≤ℤ (place l j +ℤ pos 1))
top_close (Upright c) j = (omega (arith, ints), omega (arith, ints))
top_close (Rising c) j = (omega (arith, ints), omega (arith, ints))
top_close (Falling c) j = (omega (arith, ints), omega (arith, ints))

bottom_within : (l : Line) (j : ℤ) → IsWithinReach (place l j) → IsWithinReach (x_on l j)
bottom_within l j h = let c = bottom_close l j in record { low = omega (arith, ints, c.0, h.low); high = omega (arith, ints, c.1, h.high) }

top_within : (l : Line) (j : ℤ) → IsWithinReach (place l j) → IsWithinReach (x_on l (j +ℤ pos 1))
top_within l j h = let c = top_close l j in record { low = omega (arith, ints, c.0, h.low); high = omega (arith, ints, c.1, h.high) }

pub row_shot : (l r : Line) (j : ℤ) → IsWithinReach j → IsWithinReach (j +ℤ pos 1) → IsWithinReach (place l j)
    → IsWithinReach (place r j) → place l j <ℤ place r j → IsShot (trapezoid j (j +ℤ pos 1) l r)
row_shot l r j low high left right order =
    let bottom = bottom_order l r j order in
    let top = top_order l r j order in
    let below : IsSide l r j = record { left_end = bottom_within l j left; right_end = bottom_within r j right; not_negative = omega (arith, ints, bottom) } in
    let above : IsSide l r (j +ℤ pos 1) =
    record {
      left_end = top_within l j left;
      right_end = top_within r j right;
      not_negative = omega
          (arith, ints, top);
    } in
    shot_of_sides j (j +ℤ pos 1) l r low high (omega (arith, ints)) below above (omega (arith, ints, order))

same_le : (x y u v : ℤ) → (x ≤ℤ y → u ≤ℤ v) → (u ≤ℤ v → x ≤ℤ y) → int_le x y ≡ int_le u v
same_le x y u v f g = grind (arith, ints)

same_lt : (x y u v : ℤ) → (x <ℤ y → u <ℤ v) → (u <ℤ v → x <ℤ y) → int_lt x y ≡ int_lt u v
same_lt x y u v f g = grind (arith, ints)

one_row : (x j : ℤ) → (int_le j x && int_lt x (j +ℤ pos 1)) ≡ int_eq x j
one_row x j = grind (arith, ints)

has_by : (b : Bool) (t : Tile) (l r : Line) (j : ℤ) → int_eq t.j j ≡ b
    → (b && (int_le (first_strip l) (strip_along l t) && int_lt (strip_along r t) (first_strip r)))
    ≡ (b && (int_le (place l j) (number_in_row t) && int_lt (number_in_row t) (place r j)))
has_by false t l r j e = refl
has_by true t l r j e =
    let same : t.j ≡ j = int_eq_true t.j j e in
    rw (← same)
    (ap (λ x. x && int_lt (strip_along r t) (first_strip r))
    (same_le (first_strip l) (strip_along l t) (place l t.j) (number_in_row t) (place_at_most t l)
    (right_by_place t l))
    ∙ ap (λ x. int_le (place l t.j) (number_in_row t) && x)
    (same_lt (strip_along r t) (first_strip r) (number_in_row t) (place r t.j) (number_below t r)
    (left_by_place t r)))

-- the tiles of a row's trapezoid
pub row_has : (t : Tile) (l r : Line) (j : ℤ) → trapezoid_has t (trapezoid j (j +ℤ pos 1) l r) ≡ in_row j (place l j) (place r j) t
row_has t l r j =
    ap (λ x. x && (int_le (first_strip l) (strip_along l t) && int_lt (strip_along r t) (first_strip r))) (one_row t.j j)
    ∙ has_by (int_eq t.j j) t l r j refl
