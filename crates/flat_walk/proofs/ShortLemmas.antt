-- A line by its way and number, a trapezoid by four numbers and two ways, and its corners.
use Rattle.std.proofs.Common.{◌≡◌, ◌⊎◌, inl, inr, Bool, true, false, ◌≤ℤ◌, ◌-ℤ◌, int_lt, pos, ℤ, refl, arith, w32, w64, FitsSigned}
use Rattle.std.specs.Int.{int_max}
use Rattle.std.proofs.lemmas.Int.{ints, clamps}
use Rattle.half_grid.specs.Lines.{first_strip, x_on}
use Rattle.half_grid.specs.Quads.{corners, corners_of}
use Rattle.half_grid.specs.Trapezoids.{Trapezoid, trapezoid}
use Rattle.half_grid.specs.declared.plane.Line.{Line}
use Rattle.half_grid.specs.declared.plane.Line.TheVariants.{Upright, Rising, Falling}
use Rattle.layout_model.specs.Kept.{IsShort}
use Rattle.flat_walk.specs.ShortBoxes.{side_of}
use Rattle.flat_walk.specs.ShortPieces.{kind_of, line_from}
use Rattle.flat_walk.specs.declared.kept_pieces.Kind.{Kind}

line_back : (l : Line) → line_from (kind_of l) (first_strip l) ≡ l
line_back (Upright c) = refl
line_back (Rising c) = refl
line_back (Falling c) = refl

line_is : (l : Line) (kind : Kind) (number : ℤ) → kind ≡ kind_of l → number ≡ first_strip l → line_from kind number ≡ l
line_is l kind number h k = rw (h, k) (line_back l)

pub trapezoid_is : (z : Trapezoid) (y0 y1 left right : ℤ) (left_kind right_kind : Kind) → y0 ≡ z.y0 → y1 ≡ z.y1
    → left ≡ first_strip z.left → right ≡ first_strip z.right → left_kind ≡ kind_of z.left → right_kind ≡ kind_of z.right
    → trapezoid y0 y1 (line_from left_kind left) (line_from right_kind right) ≡ z
trapezoid_is z y0 y1 left right left_kind right_kind a b c d e f =
    rw (a, b, line_is z.left left_kind left e c, line_is z.right right_kind right f d) refl

pub corners_are : (z : Trapezoid) (bottom top bottom_left top_left top_right bottom_right : ℤ) → bottom ≡ z.y0 → top ≡ z.y1
    → bottom_left ≡ x_on z.left z.y0 → top_left ≡ x_on z.left z.y1 → top_right ≡ x_on z.right z.y1 → bottom_right ≡ x_on z.right z.y0
    → corners (record { x = bottom_left; y = bottom }) (record { x = top_left; y = top })
    (record { x = top_right; y = top }) (record { x = bottom_right; y = bottom }) ≡ corners_of z
corners_are z bottom top bottom_left top_left top_right bottom_right a b c d e f = rw (a, b, c, d, e, f) refl

-- a number of 32 bits is one of 64
pub number_fits : (z : ℤ) → FitsSigned w32 z → FitsSigned w64 z
number_fits z h = search (arith, ints)

-- the place of a kept side rises with it
pub side_rises : (a b : ℤ) → IsShort a → IsShort b → a ≤ℤ b → side_of a ≤ℤ side_of b
side_rises a b s t h = grind (arith, ints, s.low, s.high, t.low, t.high, h)

-- the difference of two numbers of 32 bits is one of 64
pub difference_fits : (a b : ℤ) → FitsSigned w32 a → FitsSigned w32 b → FitsSigned w64 (a -ℤ b)
difference_fits a b h k = search (arith, ints)

-- where the greater of two numbers isn't below 0, one of them isn't
pub one_is_up : (a b most : ℤ) → most ≡ int_max a b → int_lt most (pos 0) ≡ false → (pos 0 ≤ℤ a) ⊎ (pos 0 ≤ℤ b)
one_is_up a b most is up = by (int_lt a (pos 0)) refl
  where
    by : (test : Bool) → int_lt a (pos 0) ≡ test → (pos 0 ≤ℤ a) ⊎ (pos 0 ≤ℤ b)
    by true e = inr (grind (arith, ints, clamps, is, up, e))
    by false e = inl (grind (arith, ints, e))
