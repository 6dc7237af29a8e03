-- The tiles all of whose near ones are in a trapezoid.
use Rattle.std.proofs.Common.{◌≡◌, ◌↔◌, ℤ, pos, negsuc, ◌+ℤ◌, ◌-ℤ◌, ◌≤ℤ◌, ◌<ℤ◌, neg_ℤ, refl, arith}
use Rattle.std.proofs.lemmas.Int.{ints}
use Rattle.std.proofs.lemmas.Bool.Decides.{nat_tests}
use Rattle.half_grid.specs.Halves.{half, twice}
use Rattle.half_grid.specs.Lines.{IsRightOf, IsLeftOf, first_strip, strip_along}
use Rattle.half_grid.specs.Nearness.{DifferAtMost, IsNear, IsShrunk}
use Rattle.half_grid.specs.Rows.{number_at, number_in_row}
use Rattle.half_grid.specs.Tiles.{strips_of}
use Rattle.half_grid.specs.Trapezoids.{Trapezoid, IsInTrapezoid}
use Rattle.half_grid.specs.declared.plane.Tile.{Tile}
use Rattle.half_grid.specs.declared.plane.Side.{Side}
use Rattle.half_grid.specs.declared.plane.Side.TheVariants.{Left, Right}
use Rattle.half_grid.specs.declared.plane.Line.{Line}
use Rattle.half_grid.specs.declared.plane.Line.TheVariants.{Upright, Rising, Falling}
use Rattle.half_grid.proofs.ForCallers.{p_low, p_high, q_low, q_high}
use Rattle.square_size.specs.Shrinking.{moved, inner}

-- half of a number and itself
half_of_double : (d : ℤ) → half (d +ℤ d) ≡ d
half_of_double (pos n) = grind (arith, ints, nat_tests)
half_of_double (negsuc n) = grind (arith, ints, nat_tests)

-- ---- tiles in the inner rows and lines have all near ones in the trapezoid

-- near tiles have near strips along each line
strips_near : (d : ℤ) (t u : Tile) (line : Line) → IsNear d d t u → DifferAtMost d (strip_along line t) (strip_along line u)
strips_near d t u (Upright c) near = near.columns
strips_near d t u (Rising c) near = rw (half_of_double d) at near.differences
strips_near d t u (Falling c) near = rw (half_of_double d) at near.sums

-- the first strip right of a moved line
moved_first : (by : ℤ) (line : Line) → first_strip (moved by line) ≡ first_strip line +ℤ by
moved_first by (Upright c) = refl
moved_first by (Rising c) = refl
moved_first by (Falling c) = refl

-- the strips along a moved line are those along the line
moved_along : (by : ℤ) (line : Line) (t : Tile) → strip_along (moved by line) t ≡ strip_along line t
moved_along by (Upright c) t = refl
moved_along by (Rising c) t = refl
moved_along by (Falling c) t = refl

-- all near tiles of a tile in the inner rows and lines are in the trapezoid
inner_to_shrunk : (d : ℤ) (z : Trapezoid) (t : Tile) → IsInTrapezoid (inner d z) t → IsShrunk d d (IsInTrapezoid z) t
inner_to_shrunk d z t h = λ u near.
    let left = strips_near d t u z.left near in
    let right = strips_near d t u z.right near in
    record {
      above_bottom = omega (arith, ints, h.above_bottom, near.rows.above);
      below_top = omega (arith, ints, h.below_top, near.rows.below);
      right_of_left = omega (arith, ints, h.right_of_left, left.above, moved_first d z.left, moved_along d z.left t);
      left_of_right = omega (arith, ints, h.left_of_right, right.below, moved_first (pos 0 -ℤ d) z.right, moved_along (pos 0 -ℤ d) z.right t);
    }

-- ---- the four corners of the square round a tile

-- the tile so many columns and rows further on
abbrev shifted : ℤ → ℤ → Tile → Tile
shifted a b t = record { i = t.i +ℤ a; j = t.j +ℤ b; side = t.side }

-- its number, by the side
shifted_at : (i a : ℤ) (side : Side) → number_at (i +ℤ a) side ≡ number_at i side +ℤ twice a
shifted_at i a Left = omega (arith, ints)
shifted_at i a Right = omega (arith, ints)

-- its number in its row
shifted_number : (a b : ℤ) (t : Tile) → number_in_row (shifted a b t) ≡ number_in_row t +ℤ twice a
shifted_number a b t = shifted_at t.i a t.side

-- its strip of X + Y, where the sum of the two shifts is even
shifted_p : (a b s : ℤ) (t : Tile) → a +ℤ b ≡ twice s → (strips_of (shifted a b t)).p ≡ (strips_of t).p +ℤ s
shifted_p a b s t e =
    omega (
      arith,
      ints,
      shifted_number a b t,
      p_low t,
      p_high t,
      p_low (shifted a b t),
      p_high (shifted a b t),
    )

-- its strip of X - Y, where their difference is even
shifted_q : (a b s : ℤ) (t : Tile) → a -ℤ b ≡ twice s → (strips_of (shifted a b t)).q ≡ (strips_of t).q +ℤ s
shifted_q a b s t e =
    omega (
      arith,
      ints,
      shifted_number a b t,
      q_low t,
      q_high t,
      q_low (shifted a b t),
      q_high (shifted a b t),
    )

-- two numbers of a difference of at most d either way
differ_by : (d x y s : ℤ) → y ≡ x +ℤ s → neg_ℤ d ≤ℤ s → s ≤ℤ d → DifferAtMost d x y
differ_by d x y s e low high = record { above = omega (arith, ints); below = omega (arith, ints) }

-- a corner of the square is near: p and q are the halves of the sum and of the difference of its two shifts
corner_near : (d a b p q : ℤ) (t : Tile) → neg_ℤ d ≤ℤ a → a ≤ℤ d → neg_ℤ d ≤ℤ b → b ≤ℤ d → neg_ℤ d ≤ℤ p → p ≤ℤ d → neg_ℤ d ≤ℤ q → q ≤ℤ d
    → a +ℤ b ≡ twice p → a -ℤ b ≡ twice q → IsNear d d t (shifted a b t)
corner_near d a b p q t a0 a1 b0 b1 p0 p1 q0 q1 ep eq =
    record {
      columns = differ_by d _ _ a refl a0 a1;
      rows = differ_by d _ _ b refl b0 b1;
      sums = rw (half_of_double d) (differ_by d _ _ p (shifted_p a b p t ep) p0 p1);
      differences = rw (half_of_double d) (differ_by d _ _ q (shifted_q a b q t eq) q0 q1);
    }

-- each of the four corners is near
up_right : (d : ℤ) (t : Tile) → pos 0 ≤ℤ d → IsNear d d t (shifted d d t)
up_right d t h =
    corner_near d d d d (pos 0) t (omega (arith, ints)) (omega (arith, ints)) (omega (arith, ints)) (omega (arith, ints))
    (omega (arith, ints)) (omega (arith, ints)) (omega (arith, ints)) (omega (arith, ints)) refl (omega (arith, ints))

up_left : (d : ℤ) (t : Tile) → pos 0 ≤ℤ d → IsNear d d t (shifted (neg_ℤ d) d t)
up_left d t h =
    corner_near d (neg_ℤ d) d (pos 0) (neg_ℤ d) t (omega (arith, ints)) (omega (arith, ints)) (omega (arith, ints)) (omega (arith, ints))
    (omega (arith, ints)) (omega (arith, ints)) (omega (arith, ints)) (omega (arith, ints)) (omega (arith, ints)) (omega (arith, ints))

down_right : (d : ℤ) (t : Tile) → pos 0 ≤ℤ d → IsNear d d t (shifted d (neg_ℤ d) t)
down_right d t h =
    corner_near d d (neg_ℤ d) (pos 0) d t (omega (arith, ints)) (omega (arith, ints)) (omega (arith, ints)) (omega (arith, ints))
    (omega (arith, ints)) (omega (arith, ints)) (omega (arith, ints)) (omega (arith, ints)) (omega (arith, ints)) (omega (arith, ints))

down_left : (d : ℤ) (t : Tile) → pos 0 ≤ℤ d → IsNear d d t (shifted (neg_ℤ d) (neg_ℤ d) t)
down_left d t h =
    corner_near d (neg_ℤ d) (neg_ℤ d) (neg_ℤ d) (pos 0) t (omega (arith, ints)) (omega (arith, ints)) (omega (arith, ints)) (omega (arith, ints))
    (omega (arith, ints)) (omega (arith, ints)) (omega (arith, ints)) (omega (arith, ints)) (omega (arith, ints)) (omega (arith, ints))

-- ---- a tile with all near ones in the trapezoid is in the inner rows and lines

-- one of the corners lies d strips further left
right_of_moved : (d : ℤ) (line : Line) (t : Tile) → pos 0 ≤ℤ d → ((u : Tile) → IsNear d d t u → IsRightOf u line) → IsRightOf t (moved d line)
right_of_moved d (Upright c) t h each =
    let far : c ≤ℤ (t.i +ℤ neg_ℤ d) = each _ (up_left d t h) in
    omega (arith, ints)
right_of_moved d (Rising c) t h each =
    let far : c ≤ℤ (strips_of (shifted (neg_ℤ d) d t)).q = each _ (up_left d t h) in
    omega (arith, ints, shifted_q (neg_ℤ d) d (neg_ℤ d) t (omega (arith, ints)))
right_of_moved d (Falling c) t h each =
    let far : c ≤ℤ (strips_of (shifted (neg_ℤ d) (neg_ℤ d) t)).p = each _ (down_left d t h) in
    omega (arith, ints, shifted_p (neg_ℤ d) (neg_ℤ d) (neg_ℤ d) t (omega (arith, ints)))

-- the same on the other side
left_of_moved : (d : ℤ) (line : Line) (t : Tile) → pos 0 ≤ℤ d → ((u : Tile) → IsNear d d t u → IsLeftOf u line) → IsLeftOf t (moved (pos 0 -ℤ d) line)
left_of_moved d (Upright c) t h each =
    let far : (t.i +ℤ d) <ℤ c = each _ (up_right d t h) in
    omega (arith, ints)
left_of_moved d (Rising c) t h each =
    let far : (strips_of (shifted d (neg_ℤ d) t)).q <ℤ c = each _ (down_right d t h) in
    omega (arith, ints, shifted_q d (neg_ℤ d) d t (omega (arith, ints)))
left_of_moved d (Falling c) t h each =
    let far : (strips_of (shifted d d t)).p <ℤ c = each _ (up_right d t h) in
    omega (arith, ints, shifted_p d d d t (omega (arith, ints)))

-- a tile with all near ones in the trapezoid is in the inner rows and lines
shrunk_to_inner : (d : ℤ) (z : Trapezoid) (t : Tile) → pos 0 ≤ℤ d → IsShrunk d d (IsInTrapezoid z) t → IsInTrapezoid (inner d z) t
shrunk_to_inner d z t h all =
    let low : z.y0 ≤ℤ (t.j +ℤ neg_ℤ d) = (all _ (down_left d t h)).above_bottom in
    let high : (t.j +ℤ d) <ℤ z.y1 = (all _ (up_left d t h)).below_top in
    record {
      above_bottom = omega (arith, ints, low);
      below_top = omega (arith, ints, high);
      right_of_left = right_of_moved d z.left t h (λ u near. (all u near).right_of_left);
      left_of_right = left_of_moved d z.right t h (λ u near. (all u near).left_of_right);
    }

-- All tiles near to a tile are in a trapezoid exactly where the tile is in the inner rows and lines.
pub shrunk_is_inner : (d : ℤ) (z : Trapezoid) (t : Tile) → pos 0 ≤ℤ d → IsShrunk d d (IsInTrapezoid z) t ↔ IsInTrapezoid (inner d z) t
shrunk_is_inner d z t h = (shrunk_to_inner d z t h, inner_to_shrunk d z t)
