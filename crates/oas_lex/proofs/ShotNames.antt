-- The numbers of a record name its shot.
use Rattle.std.proofs.Common.{◌≡◌, ℤ, pos, negsuc, ◌-ℤ◌, ◌≤ℤ◌, unsigned_abs, arith, ap, sym, ◌∙◌}
use Rattle.std.proofs.lemmas.Int.{ints, clamps}
use Rattle.std.specs.Int.{int_min, int_max}
use Rattle.half_grid.specs.Lines.{x_on}
use Rattle.half_grid.specs.Trapezoids.{Trapezoid, IsShot, box_width}
use Rattle.half_grid.proofs.ForCallers.{line_names, same_trapezoid}
use Rattle.oas_lex.specs.ShotText.{left_delta, right_delta, least_x}

-- two numbers of one least and one difference are the same, and of one greatest
pub least_names : (a b c d : ℤ) → int_min a b ≡ int_min c d → b -ℤ a ≡ d -ℤ c → (a ≡ c) × (b ≡ d)
least_names a b c d e f = (omega (arith, ints, clamps), omega (arith, ints, clamps))

pub greatest_names : (a b c d : ℤ) → int_max a b ≡ int_max c d → b -ℤ a ≡ d -ℤ c → (a ≡ c) × (b ≡ d)
greatest_names a b c d e f = (omega (arith, ints, clamps), omega (arith, ints, clamps))

size_names : (a b : ℤ) → pos 0 ≤ℤ a → pos 0 ≤ℤ b → unsigned_abs a ≡ unsigned_abs b → a ≡ b
size_names (pos a) (pos b) h g e = ap pos e
size_names (pos a) (negsuc b) h g e = absurd (omega (arith, ints))
size_names (negsuc a) b h g e = absurd (omega (arith, ints))

-- a box is as wide as the longer of the parallel sides at least
pub width_some : (a b c d : ℤ) → pos 0 ≤ℤ (c -ℤ a) → pos 0 ≤ℤ (int_max c d -ℤ int_min a b)
width_some a b c d h = omega (arith, ints, clamps)

add_back : (a b c d : ℤ) → a -ℤ b ≡ c -ℤ d → b ≡ d → a ≡ c
add_back a b c d e f = omega (arith, ints)

pub shot_names : (y z : Trapezoid) → IsShot y → IsShot z
    → unsigned_abs (box_width y) ≡ unsigned_abs (box_width z) → unsigned_abs (y.y1 -ℤ y.y0) ≡ unsigned_abs (z.y1 -ℤ z.y0)
    → left_delta y ≡ left_delta z → right_delta y ≡ right_delta z → least_x y ≡ least_x z → y.y0 ≡ z.y0 → y ≡ z
shot_names y z h g width height left right x bottom =
    let rows : y.y1 -ℤ y.y0 ≡ z.y1 -ℤ z.y0 = size_names (y.y1 -ℤ y.y0) (z.y1 -ℤ z.y0)
    (omega (arith, ints, h.legal.has_rows)) (omega (arith, ints, g.legal.has_rows)) height in
    let top : y.y1 ≡ z.y1 = omega (arith, ints) in
    let lefts : (x_on y.left y.y0 ≡ x_on z.left z.y0) × (x_on y.left y.y1 ≡ x_on z.left z.y1) =
    least_names (x_on y.left y.y0) (x_on y.left y.y1) (x_on z.left z.y0) (x_on z.left z.y1) x left in
    let wide : box_width y ≡ box_width z = size_names (box_width y) (box_width z)
    (width_some (x_on y.left y.y0) (x_on y.left y.y1) (x_on y.right y.y0) (x_on y.right y.y1) h.legal.bottom)
    (width_some (x_on z.left z.y0) (x_on z.left z.y1) (x_on z.right z.y0) (x_on z.right z.y1) g.legal.bottom) width in
    let most : int_max (x_on y.right y.y0) (x_on y.right y.y1) ≡ int_max (x_on z.right z.y0) (x_on z.right z.y1) = add_back _ _ _ _ wide x in
    let rights : (x_on y.right y.y0 ≡ x_on z.right z.y0) × (x_on y.right y.y1 ≡ x_on z.right z.y1) =
    greatest_names (x_on y.right y.y0) (x_on y.right y.y1) (x_on z.right z.y0) (x_on z.right z.y1) most right in
    let left_line : y.left ≡ z.left = line_names y.left z.left y.y0 y.y1 h.legal.has_rows
    (lefts.0 ∙ ap (x_on z.left) (sym bottom)) (lefts.1 ∙ ap (x_on z.left) (sym top)) in
    let right_line : y.right ≡ z.right = line_names y.right z.right y.y0 y.y1 h.legal.has_rows
    (rights.0 ∙ ap (x_on z.right) (sym bottom)) (rights.1 ∙ ap (x_on z.right) (sym top)) in
    same_trapezoid y.y0 z.y0 y.y1 z.y1 y.left z.left y.right z.right bottom top left_line right_line
