-- One call on what is in hand: the first shot, and those that are left.
use Rattle.std.proofs.Common.{subst, ◌-ℤ◌, ◌≡◌, ℕ, ◌+◌, ◌*◌, ◌≤◌, arith, mul-suc, mul-le-mul_left, ℤ, ◌≤ℤ◌, ◌<ℤ◌, List}
use Rattle.std.proofs.Common.{[], ◌∷◌, ◌++◌, Option, Some, None, refl, ap, ◌∙◌, sym}
use Rattle.std.proofs.lemmas.Int.{by_lt_z}
use Rattle.half_grid.specs.Trapezoids.{Trapezoid, trapezoid, IsShot, box_width}
use Rattle.half_grid.specs.declared.shot.Limits.{Limits}
use Rattle.fracture.specs.Limits.{AreLimits}
use Rattle.fracture.specs.Cutting.{height_of, lowest_rows, rows_above, leftmost_part, part_beyond, cut_by_width, cut_list}
use Rattle.std.specs.Option.{ForSome}
use Rattle.fracture.specs.declared.cuts.Rest.{Rest}
use Rattle.fracture.specs.Cuts.{trap_of, shots_of_piece, shots_of_rows, most_shots}
use Rattle.fracture.specs.declared.parts.Cut.{Cut}
use Rattle.fracture.proofs.PartLemmas.{IsLow}
use Rattle.fracture.proofs.Recursions.{low_is_one, lowest_first, narrow_is_one, leftmost_first}

-- a part that was cut off, and what is left
abbrev one_part : Trapezoid → Cut
one_part z = record { part = z; rest = None }

abbrev two_parts : Trapezoid → Trapezoid → Cut
two_parts part rest = record { part = part; rest = Some rest }

module _ (height width : ℤ) (limits : AreLimits height width) where
  pub piece_step : (z : Trapezoid) (cut : Cut) → IsLow height z → (box_width z ≤ℤ width → cut ≡ one_part z)
      → (width <ℤ box_width z → cut ≡ two_parts (leftmost_part width z) (part_beyond width z))
      → cut_by_width width z ≡ cut.part ∷ shots_of_piece width cut.rest
  piece_step z cut s whole parted =
      by_lt_z width (box_width z)
      (λ over. leftmost_first height width limits z s over ∙ sym (ap (λ c. c.part ∷ shots_of_piece width c.rest) (parted over)))
      (λ fits. narrow_is_one height width limits z fits ∙ sym (ap (λ c. c.part ∷ shots_of_piece width c.rest) (whole fits)))

  low_list : (z : Trapezoid) → height_of z ≤ℤ height → cut_list height width z ≡ cut_by_width width z ++ []
  low_list z h = rw (low_is_one height width limits z h) refl

  high_list : (z : Trapezoid) → IsShot z → height <ℤ height_of z
      → cut_list height width z ≡ cut_by_width width (lowest_rows height z) ++ cut_list height width
      (rows_above height z)
  high_list z s h = rw (lowest_first height width limits z s h) refl

  pub trap_step : (z : Trapezoid) (cut : Cut) → IsShot z → (height_of z ≤ℤ height → cut ≡ one_part z)
      → (height <ℤ height_of z → cut ≡ two_parts (lowest_rows height z) (rows_above height z))
      → cut_list height width z ≡ cut_by_width width cut.part ++ shots_of_rows height width cut.rest
  trap_step z cut s whole parted =
      by_lt_z height (height_of z)
      (λ over. high_list z s over ∙ sym (ap (λ c. cut_by_width width c.part ++ shots_of_rows height width c.rest) (parted over)))
      (λ fits. low_list z fits ∙ sym (ap (λ c. cut_by_width width c.part ++ shots_of_rows height width c.rest) (whole fits)))

-- the lists of a trapezoid that was begun
pub begun : (limits now : Limits) (list low : List Trapezoid) (first : Trapezoid) (piece above rest : Option Trapezoid)
    → list ≡ low ++ shots_of_rows limits.height limits.width rest → low ≡ first ∷ shots_of_piece limits.width piece → above ≡ rest → now ≡ limits
    → list ≡ first ∷ (shots_of_piece now.width piece ++ shots_of_rows now.height now.width above)
begun limits now list low first piece above rest e f g h = rw (h, g, e, f) refl

-- a trapezoid has no more shots than the source's size gives room for
pub room : (hand before after : ℕ) → hand + 1 ≤ most_shots → after + 1 ≤ before → hand + most_shots * after + 1 ≤ most_shots * before
room hand before after h k =
    let products : most_shots * (after + 1) ≤ most_shots * before = mul-le-mul_left most_shots k in
    omega (arith, products, mul-suc most_shots after, h)

-- what is kept is as high as the rest of the cut
pub kept_low : (height : ℤ) (kept : Option Rest) (rest : Option Trapezoid) → trap_of kept ≡ rest
    → ForSome rest (λ z. height_of z ≤ℤ height) → ForSome kept (λ z. (z.y1 -ℤ z.y0) ≤ℤ height)
kept_low height None rest e low z is = absurd cc
kept_low height (Some part) rest e low z is =
    let same : part ≡ z = cc in
    subst (λ (v : Rest). (v.y1 -ℤ v.y0) ≤ℤ height) same (low (trapezoid part.y0 part.y1 part.left part.right) (sym e))
