-- The tiles of a trapezoid that is cut in two, by height or by width: each is in just one of the two parts.
use Rattle.std.proofs.Common.{◌≡◌, ℕ, ◌+◌, Bool, true, false, ℤ, pos, ◌+ℤ◌, ◌-ℤ◌, ◌≤ℤ◌, ◌<ℤ◌, List, [], ◌∷◌, ◌++◌, arith, refl, ◌∙◌}
use Rattle.std.proofs.lemmas.Int.{ints, by_lt_z}
use Rattle.std.proofs.lemmas.List.Sums.{sum_by-append}
use mathlib.Core.Logic.{◌⊎◌, inl, inr}
use Rattle.half_grid.specs.Rows.{place, number_in_row}
use Rattle.half_grid.specs.Winding.{count_one}
use Rattle.half_grid.specs.Trapezoids.{Trapezoid, IsInTrapezoid, box_width, trapezoid_has, count_in}
use Rattle.half_grid.specs.declared.plane.Tile.{Tile}
use Rattle.half_grid.proofs.ForCallers.{has_in, in_has, number_between, in_by_number, count_by-cons}
use Rattle.fracture.specs.Limits.{AreLimits}
use Rattle.fracture.specs.Cutting.{below, from_row, cut_at, leftmost_part, part_beyond}
use Rattle.fracture.proofs.CutNumbers.{place_above, place_below}
use Rattle.fracture.proofs.PartLemmas.{IsLow, cut_is}

-- a and b together have the tiles of z, each once
pub record IsSplit (z a b : Trapezoid) (t : Tile) : Type 0 where
  pub first : IsInTrapezoid a t → IsInTrapezoid z t
  pub second : IsInTrapezoid b t → IsInTrapezoid z t
  pub either : IsInTrapezoid z t → IsInTrapezoid a t ⊎ IsInTrapezoid b t
  pub apart : IsInTrapezoid a t → IsInTrapezoid b t → ⊥

abbrev ones : Trapezoid → Trapezoid → Tile → ℕ
ones a b t = count_one (trapezoid_has t a) + count_one (trapezoid_has t b)

none_of : (t : Tile) (a : Trapezoid) → trapezoid_has t a ≡ false → IsInTrapezoid a t → ⊥
none_of t a e h = let yes = in_has t a h in absurd cc

split_by : (z a b : Trapezoid) (t : Tile) → IsSplit z a b t → (p q r : Bool) → trapezoid_has t a ≡ p → trapezoid_has t b ≡ q → trapezoid_has t z ≡ r
    → count_one p + count_one q ≡ count_one r
split_by z a b t s true true r e f g = absurd (s.apart (has_in t a e) (has_in t b f))
split_by z a b t s true false true e f g = refl
split_by z a b t s true false false e f g = absurd (none_of t z g (s.first (has_in t a e)))
split_by z a b t s false true true e f g = refl
split_by z a b t s false true false e f g = absurd (none_of t z g (s.second (has_in t b f)))
split_by z a b t s false false false e f g = refl
split_by z a b t s false false true e f g = elim (s.either (has_in t z g)) [ inl h ↦ absurd (none_of t a e h) | inr h ↦ absurd (none_of t b f h) ]

pub split_ones : (z a b : Trapezoid) (t : Tile) → IsSplit z a b t → ones a b t ≡ count_one (trapezoid_has t z)
split_ones z a b t s = split_by z a b t s _ _ _ refl refl refl

pub one_counted : (z : Trapezoid) (t : Tile) → count_in (z ∷ []) t ≡ count_one (trapezoid_has t z)
one_counted z t = count_by-cons (trapezoid_has t) z [] ∙ omega arith

pub count_in-append : (xs ys : List Trapezoid) (t : Tile) → count_in (xs ++ ys) t ≡ count_in xs t + count_in ys t
count_in-append xs ys t = sum_by-append _ xs ys

-- one part more
pub counted_more : (z a b : Trapezoid) (parts : List Trapezoid) (t : Tile) → IsSplit z a b t
    → count_in parts t ≡ count_in (b ∷ []) t → count_in (a ∷ parts) t ≡ count_in (z ∷ []) t
counted_more z a b parts t s h =
    let more = count_by-cons (trapezoid_has t) a parts in
    omega (arith, more, h, one_counted b t, one_counted z t, split_ones z a b t s)

-- by height
pub rows_split : (z : Trapezoid) (y : ℤ) (t : Tile) → z.y0 <ℤ y → y <ℤ z.y1 → IsSplit z (below z y) (from_row z y) t
rows_split z y t a b = record {
  first = λ h. record {
    above_bottom = h.above_bottom;
    below_top = omega (arith, ints, b, h.below_top);
    right_of_left =
        h.right_of_left;
    left_of_right = h.left_of_right;
  };
  second = λ h. record {
    above_bottom = omega (arith, ints, a, h.above_bottom);
    below_top =
        h.below_top;
    right_of_left = h.right_of_left;
    left_of_right = h.left_of_right;
  };
  either = λ h.
      by_lt_z t.j y (λ low. inl (record { above_bottom = h.above_bottom; below_top = low; right_of_left = h.right_of_left; left_of_right = h.left_of_right }))
      (λ high. inr (record { above_bottom = high; below_top = h.below_top; right_of_left = h.right_of_left; left_of_right = h.left_of_right }));
  apart = λ h k. omega (arith, ints, h.below_top, k.above_bottom);
}

-- by width
module _ (height width : ℤ) (limits : AreLimits height width) (z : Trapezoid) (s : IsLow height z) (over : width <ℤ box_width z) where
  -- where the cut lies in a row, between the two lines
  pub cut_right_of_left : (j : ℤ) → z.y0 ≤ℤ j → j <ℤ z.y1 → place z.left j <ℤ (cut_at width z +ℤ cut_at width z)
  cut_right_of_left j a b =
      let c = cut_is height width limits z s over in
      let place = place_below z.left z.y0 j z.y1 (cut_at width z -ℤ pos 1) a b (omega (arith, ints, c.bottom_left)) (omega (arith, ints, c.top_left)) in
      omega (arith, ints, place)

  pub cut_left_of_right : (j : ℤ) → z.y0 ≤ℤ j → j <ℤ z.y1 → (cut_at width z +ℤ cut_at width z) ≤ℤ place z.right j
  cut_left_of_right j a b =
      let c = cut_is height width limits z s over in
      place_above z.right z.y0 j z.y1 (cut_at width z) a b c.bottom_right c.top_right

  pub left_in : (t : Tile) → IsInTrapezoid (leftmost_part width z) t → IsInTrapezoid z t
  left_in t h =
      let n = number_between (leftmost_part width z) t h in
      in_by_number z t (record {
        above_bottom = n.above_bottom;
        below_top = n.below_top;
        from_left =
            n.from_left;
        below_right = omega
            (arith, ints, n.below_right, cut_left_of_right t.j n.above_bottom n.below_top);
      })

  pub beyond_in : (t : Tile) → IsInTrapezoid (part_beyond width z) t → IsInTrapezoid z t
  beyond_in t h =
      let n = number_between (part_beyond width z) t h in
      in_by_number z t (record {
        above_bottom = n.above_bottom;
        below_top = n.below_top;
        from_left = omega
            (arith, ints, n.from_left, cut_right_of_left t.j n.above_bottom n.below_top);
        below_right = n.below_right;
      })

  pub width_split : (t : Tile) → IsSplit z (leftmost_part width z) (part_beyond width z) t
  width_split t = record {
    first = left_in t;
    second = beyond_in t;
    either = λ h. (let n = number_between z t h in
        by_lt_z (number_in_row t) (cut_at width z +ℤ cut_at width z)
        (λ low. inl (in_by_number (leftmost_part width z) t
        (record {
          above_bottom = n.above_bottom;
          below_top = n.below_top;
          from_left = n.from_left;
          below_right =
              low;
        })))
        (λ high. inr (in_by_number (part_beyond width z) t
        (record {
          above_bottom = n.above_bottom;
          below_top = n.below_top;
          from_left = high;
          below_right =
              n.below_right;
        }))));
    apart = λ h k. (let n = number_between (leftmost_part width z) t h in let m = number_between
        (part_beyond width z) t k in omega (arith, ints, n.below_right, m.from_left));
  }
