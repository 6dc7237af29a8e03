-- The two cuttings as parts cut off one after the other: what is left gets smaller, and the cuts are enough.
use Rattle.std.proofs.Common.{◌≡◌, ℕ, ◌<◌, ◌≤◌, ◌^◌, true, false, ℤ, pos, negsuc, ◌≤ℤ◌, ◌<ℤ◌, List, [], ◌∷◌, arith}
use Rattle.std.proofs.lemmas.Int.{ints, clamps}
use Rattle.std.specs.Prelude.{int_le}
use Rattle.half_grid.specs.Trapezoids.{Trapezoid, IsShot, box_width}
use Rattle.half_grid.proofs.ForCallers.{le_yes, le_no}
use Rattle.fracture.specs.Limits.{AreLimits}
use Rattle.fracture.specs.Cutting.{height_of, enough_cuts, is_low, lowest_rows, rows_above, cut_by_height, is_narrow, leftmost_part, part_beyond, cut_by_width}
use Rattle.fracture.proofs.PartLemmas.{IsLow, above_is_shot, beyond_is_low, cut_is}
use Rattle.fracture.proofs.Offcuts.{Shrinks, whole, first_part, of_parts}

-- tests on whole numbers by the facts that they decide
pub le_true : (x y : ℤ) → int_le x y ≡ true → x ≤ℤ y
le_true x y h = grind (arith, ints)

pub le_false : (x y : ℤ) → int_le x y ≡ false → y <ℤ x
le_false x y h = grind (arith, ints)

-- a number that isn't negative, as a count
abbrev pub count_of : ℤ → ℕ
count_of (pos n) = n
count_of (negsuc n) = 0

count_falls : (a b : ℤ) → pos 0 <ℤ b → a <ℤ b → count_of a < count_of b
count_falls (pos a) (pos b) h k = omega (arith, ints, k)
count_falls (pos a) (negsuc b) h k = absurd (omega (arith, ints, h))
count_falls (negsuc a) (pos b) h k = omega (arith, ints, h)
count_falls (negsuc a) (negsuc b) h k = absurd (omega (arith, ints, h))

count_within : (a : ℤ) (n : ℕ) → a ≤ℤ pos n → count_of a ≤ n
count_within (pos a) n h = omega (arith, ints, h)
count_within (negsuc a) n h = omega arith

-- the rows of a trapezoid, and the width of its box, are fewer than the cuts
abbrev pub rows_of : Trapezoid → ℕ
rows_of z = count_of (height_of z)

abbrev pub width_of : Trapezoid → ℕ
width_of z = count_of (box_width z)

pub rows_enough : (z : Trapezoid) → IsShot z → rows_of z ≤ enough_cuts
unfolding enough_cuts
rows_enough z s = count_within (height_of z) (2 ^ 46) (omega (arith, ints, s.reach.y0.low, s.reach.y1.high))

pub width_enough : (z : Trapezoid) → IsShot z → width_of z ≤ enough_cuts
unfolding enough_cuts
width_enough z s =
    let bl = s.reach.bottom_left.low in
    let tl = s.reach.top_left.low in
    let br = s.reach.bottom_right.high in
    let tr = s.reach.top_right.high in
    count_within (box_width z) (2 ^ 46) (omega (arith, ints, clamps))

module _ (height width : ℤ) (limits : AreLimits height width) where
  pub heights_shrink : Shrinks (is_low height) (lowest_rows height) (rows_above height) IsShot rows_of
  heights_shrink = record {
    keeps = λ z s h. above_is_shot height width limits z s (le_false _ _ h);
    falls = λ z s h. (let over = le_false (height_of z) height h in count_falls (height_of (rows_above height z))
        (height_of z) (omega (arith, ints, over, limits.some_rows)) (omega (arith, ints, limits.some_rows)));
  }

  narrower : (z : Trapezoid) → IsLow height z → width <ℤ box_width z → box_width (part_beyond width z) <ℤ box_width z
  narrower z s h = let c = cut_is height width limits z s h in let a = c.bottom_left in let b = c.top_left in omega (arith, ints, clamps)

  pub widths_shrink : Shrinks (is_narrow width) (leftmost_part width) (part_beyond width) (IsLow height) width_of
  widths_shrink = record {
    keeps = λ z s h. beyond_is_low height width limits z s (le_false _ _ h);
    falls = λ z s h. (let over = le_false (box_width z) width h in count_falls _ _
        (omega (arith, ints, over, limits.some_rows, limits.wide)) (narrower z s over));
  }

  -- one step of each
  pub low_is_one : (z : Trapezoid) → height_of z ≤ℤ height → cut_by_height height z ≡ z ∷ []
  low_is_one z h = whole _ _ _ enough_cuts z (le_yes _ _ h)

  pub lowest_first : (z : Trapezoid) → IsShot z → height <ℤ height_of z
      → cut_by_height height z ≡ lowest_rows height z ∷ cut_by_height height (rows_above height z)
  lowest_first z s h = first_part _ _ _ IsShot rows_of heights_shrink enough_cuts z s (rows_enough z s) (le_no _ _ h)

  pub narrow_is_one : (z : Trapezoid) → box_width z ≤ℤ width → cut_by_width width z ≡ z ∷ []
  narrow_is_one z h = whole _ _ _ enough_cuts z (le_yes _ _ h)

  pub leftmost_first : (z : Trapezoid) → IsLow height z → width <ℤ box_width z
      → cut_by_width width z ≡ leftmost_part width z ∷ cut_by_width width (part_beyond width z)
  leftmost_first z s h = first_part _ _ _ (IsLow height) width_of widths_shrink enough_cuts z s (width_enough z s.shot) (le_no _ _ h)

  -- what holds of the parts by cases, for each of the two
  module _ (Q : Trapezoid → List Trapezoid → Type 0) where
    pub of_heights : (one : (z : Trapezoid) → IsShot z → height_of z ≤ℤ height → Q z (z ∷ []))
        → (more : (z : Trapezoid) (parts : List Trapezoid) → IsShot z → height <ℤ height_of z
        → Q (rows_above height z) parts → Q z (lowest_rows height z ∷ parts))
        → (z : Trapezoid) → IsShot z → Q z (cut_by_height height z)
    of_heights one more z s =
        of_parts (is_low height) (lowest_rows height) (rows_above height) IsShot rows_of heights_shrink Q
        (λ z s h. one z s (le_true _ _ h)) (λ z parts s h q. more z parts s (le_false _ _ h) q) enough_cuts z s (rows_enough z s)

    pub of_widths : (one : (z : Trapezoid) → IsLow height z → box_width z ≤ℤ width → Q z (z ∷ []))
        → (more : (z : Trapezoid) (parts : List Trapezoid) → IsLow height z → width <ℤ box_width z
        → Q (part_beyond width z) parts → Q z (leftmost_part width z ∷ parts))
        → (z : Trapezoid) → IsLow height z → Q z (cut_by_width width z)
    of_widths one more z s =
        of_parts (is_narrow width) (leftmost_part width) (part_beyond width) (IsLow height) width_of widths_shrink Q
        (λ z s h. one z s (le_true _ _ h)) (λ z parts s h q. more z parts s (le_false _ _ h) q) enough_cuts z s (width_enough z s.shot)
