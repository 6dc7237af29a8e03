-- The numbers of a cut: lines from row to row, and where a piece that is too wide is cut.
use Rattle.std.proofs.Common.{◌≡◌, ℤ, pos, ◌+ℤ◌, ◌-ℤ◌, ◌≤ℤ◌, ◌<ℤ◌, arith}
use Rattle.std.proofs.lemmas.Int.{ints, clamps}
use Rattle.std.specs.Int.{int_min, int_max}
use Rattle.half_grid.specs.Lines.{x_on}
use Rattle.half_grid.specs.Rows.{place}
use Rattle.half_grid.specs.declared.plane.Line.{Line}
use Rattle.half_grid.specs.declared.plane.Line.TheVariants.{Upright, Rising, Falling}

-- a line between two heights stays between bounds of its ends
pub x_between : (l : Line) (y0 y y1 low high : ℤ) → y0 ≤ℤ y → y ≤ℤ y1 → low ≤ℤ x_on l y0 → low ≤ℤ x_on l y1 → x_on l y0 ≤ℤ high → x_on l y1 ≤ℤ high
    → (low ≤ℤ x_on l y) × (x_on l y ≤ℤ high)
x_between (Upright c) y0 y y1 low high a b p q r s = (p, r)
x_between (Rising c) y0 y y1 low high a b p q r s = (omega (arith, ints), omega (arith, ints))
x_between (Falling c) y0 y y1 low high a b p q r s = (omega (arith, ints), omega (arith, ints))

-- a line that is nowhere left of c, or nowhere right of it, and its place in a row between
x_above : (l : Line) (y0 y y1 c : ℤ) → y0 ≤ℤ y → y ≤ℤ y1 → c ≤ℤ x_on l y0 → c ≤ℤ x_on l y1 → c ≤ℤ x_on l y
x_above (Upright d) y0 y y1 c a b p q = p
x_above (Rising d) y0 y y1 c a b p q = omega (arith, ints)
x_above (Falling d) y0 y y1 c a b p q = omega (arith, ints)

x_below : (l : Line) (y0 y y1 c : ℤ) → y0 ≤ℤ y → y ≤ℤ y1 → x_on l y0 ≤ℤ c → x_on l y1 ≤ℤ c → x_on l y ≤ℤ c
x_below (Upright d) y0 y y1 c a b p q = p
x_below (Rising d) y0 y y1 c a b p q = omega (arith, ints)
x_below (Falling d) y0 y y1 c a b p q = omega (arith, ints)

pub place_above : (l : Line) (y0 j y1 c : ℤ) → y0 ≤ℤ j → j <ℤ y1 → c ≤ℤ x_on l y0 → c ≤ℤ x_on l y1 → (c +ℤ c) ≤ℤ place l j
place_above l y0 j y1 c a b p q =
    let here = x_above l y0 j y1 c a (omega (arith, ints, b)) p q in
    let next = x_above l y0 (j +ℤ pos 1) y1 c (omega (arith, ints, a)) (omega (arith, ints, b)) p q in
    omega (arith, ints, here, next)

pub place_below : (l : Line) (y0 j y1 c : ℤ) → y0 ≤ℤ j → j <ℤ y1 → x_on l y0 ≤ℤ c → x_on l y1 ≤ℤ c → place l j ≤ℤ (c +ℤ c)
place_below l y0 j y1 c a b p q =
    let here = x_below l y0 j y1 c a (omega (arith, ints, b)) p q in
    let next = x_below l y0 (j +ℤ pos 1) y1 c (omega (arith, ints, a)) (omega (arith, ints, b)) p q in
    omega (arith, ints, here, next)

-- a line moves by at most one a row
pub x_steps : (l : Line) (y0 y1 : ℤ) → y0 ≤ℤ y1 → ((x_on l y1 -ℤ x_on l y0) ≤ℤ (y1 -ℤ y0)) × ((x_on l y0 -ℤ x_on l y1) ≤ℤ (y1 -ℤ y0))
x_steps (Upright c) y0 y1 a = (omega (arith, ints), omega (arith, ints))
x_steps (Rising c) y0 y1 a = (omega (arith, ints), omega (arith, ints))
x_steps (Falling c) y0 y1 a = (omega (arith, ints), omega (arith, ints))

-- two lines that don't cross, and differ at one of two heights, differ between them
pub wide_inside : (l r : Line) (y0 y y1 : ℤ) → y0 <ℤ y → y <ℤ y1 → pos 0 ≤ℤ (x_on r y0 -ℤ x_on l y0) → pos 0 ≤ℤ (x_on r y1 -ℤ x_on l y1)
    → pos 0 <ℤ ((x_on r y0 -ℤ x_on l y0) +ℤ (x_on r y1 -ℤ x_on l y1)) → pos 0 <ℤ (x_on r y -ℤ x_on l y)
wide_inside (Upright c) (Upright d) y0 y y1 a b p q s = omega (arith, ints)
wide_inside (Upright c) (Rising d) y0 y y1 a b p q s = omega (arith, ints)
wide_inside (Upright c) (Falling d) y0 y y1 a b p q s = omega (arith, ints)
wide_inside (Rising c) (Upright d) y0 y y1 a b p q s = omega (arith, ints)
wide_inside (Rising c) (Rising d) y0 y y1 a b p q s = omega (arith, ints)
wide_inside (Rising c) (Falling d) y0 y y1 a b p q s = omega (arith, ints)
wide_inside (Falling c) (Upright d) y0 y y1 a b p q s = omega (arith, ints)
wide_inside (Falling c) (Rising d) y0 y y1 a b p q s = omega (arith, ints)
wide_inside (Falling c) (Falling d) y0 y y1 a b p q s = omega (arith, ints)

-- The cut at c of a piece that is too wide. Its left line goes from p to q, its right line from a to b, over h rows, of
-- which there are at most half the width: c is right of the left line, and not right of the right line.
pub record IsCut (p q a b width c : ℤ) : Type 0 where
  pub bottom_left : p <ℤ c
  pub top_left : q <ℤ c
  pub bottom_right : c ≤ℤ a
  pub top_right : c ≤ℤ b
  pub not_flat : pos 0 <ℤ ((a -ℤ c) +ℤ (b -ℤ c))
  pub narrow : (c -ℤ int_min p q) ≤ℤ width

pub cut_numbers : (p q a b h height width c : ℤ) → pos 0 <ℤ h → h ≤ℤ height → (height +ℤ height) ≤ℤ width
    → (q -ℤ p) ≤ℤ h → (p -ℤ q) ≤ℤ h → (b -ℤ a) ≤ℤ h → (a -ℤ b) ≤ℤ h
    → width <ℤ (int_max a b -ℤ int_min p q) → c ≡ int_min (int_min p q +ℤ width) (int_min a b) → IsCut p q a b width c
cut_numbers p q a b h height width c rows low wide lq lp rb ra over is = record {
  bottom_left = omega (arith, ints, clamps);
  top_left = omega (arith, ints, clamps);
  bottom_right = omega (arith, ints, clamps);
  top_right = omega (arith, ints, clamps);
  not_flat = omega (arith, ints, clamps);
  narrow = omega (arith, ints, clamps);
}
