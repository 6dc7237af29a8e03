-- The winding of a trapezoid's corners, and of its two edges, at each tile.
use Rattle.std.proofs.Common.{◌≡◌, ◌≢◌, Bool, true, false, ◌&&◌, ℤ, pos, ◌-ℤ◌, ◌≤ℤ◌, ◌<ℤ◌, neg_ℤ, arith, refl, ap, ◌∙◌}
use Rattle.std.proofs.Common.{Option, Some, None, IfSome, IfNone, [], ◌∷◌}
use Rattle.std.proofs.lemmas.Int.{ints}
use Rattle.std.specs.Prelude.{int_le, int_lt}
use Rattle.half_grid.specs.Lines.{Passes, IsRightOf, line_of, strip_along, first_strip, x_on}
use Rattle.half_grid.specs.Rows.{place, number_in_row}
use Rattle.half_grid.specs.Winding.{winding, crossing_of, count_one}
use Rattle.half_grid.specs.Trapezoids.{Trapezoid, IsInTrapezoid, IsLegal, IsShot}
use Rattle.half_grid.specs.Quads.{IsQuad, corners, corners_of, ring_of, point_on}
use Rattle.half_grid.specs.declared.plane.Tile.{Tile}
use Rattle.half_grid.specs.declared.plane.Point.{Point}
use Rattle.half_grid.specs.declared.plane.Line.{Line}
use Rattle.half_grid.specs.declared.plane.Line.TheVariants.{Upright, Rising, Falling}
use Rattle.half_grid.proofs.LineLemmas.{line_of_through, line_of_none}
use Rattle.half_grid.proofs.Places.{place_at_most, right_by_place, legal_places}
use Rattle.half_grid.proofs.WindingLemmas.{winding_along, crossing_none}

pub int_le_true : (x y : ℤ) → int_le x y ≡ true → x ≤ℤ y
int_le_true x y h = grind (arith, ints)

pub int_le_false : (x y : ℤ) → int_le x y ≡ false → y <ℤ x
int_le_false x y h = grind (arith, ints)

pub int_lt_true : (x y : ℤ) → int_lt x y ≡ true → x <ℤ y
int_lt_true x y h = grind (arith, ints)

pub int_le_yes : (x y : ℤ) → x ≤ℤ y → int_le x y ≡ true
int_le_yes x y h = grind (arith, ints)

pub int_le_no : (x y : ℤ) → y <ℤ x → int_le x y ≡ false
int_le_no x y h = grind (arith, ints)

pub int_lt_yes : (x y : ℤ) → x <ℤ y → int_lt x y ≡ true
int_lt_yes x y h = grind (arith, ints)

pub int_lt_no : (x y : ℤ) → y ≤ℤ x → int_lt x y ≡ false
int_lt_no x y h = grind (arith, ints)

-- two lines through two points of different Y are one
one_line_through : (l m : Line) (a b : Point) → Passes l a → Passes l b → Passes m a → Passes m b → a.y ≢ b.y → l ≡ m
one_line_through (Upright c) (Upright d) a b p q r s n = let e : c ≡ d = omega (arith, ints, p, r) in ap Upright e
one_line_through (Upright c) (Rising d) a b p q r s n = absurd (n (omega (arith, ints, p, q, r, s)))
one_line_through (Upright c) (Falling d) a b p q r s n = absurd (n (omega (arith, ints, p, q, r, s)))
one_line_through (Rising c) (Upright d) a b p q r s n = absurd (n (omega (arith, ints, p, q, r, s)))
one_line_through (Rising c) (Rising d) a b p q r s n = let e : c ≡ d = omega (arith, ints, p, r) in ap Rising e
one_line_through (Rising c) (Falling d) a b p q r s n = absurd (n (omega (arith, ints, p, q, r, s)))
one_line_through (Falling c) (Upright d) a b p q r s n = absurd (n (omega (arith, ints, p, q, r, s)))
one_line_through (Falling c) (Rising d) a b p q r s n = absurd (n (omega (arith, ints, p, q, r, s)))
one_line_through (Falling c) (Falling d) a b p q r s n = let e : c ≡ d = omega (arith, ints, p, r) in ap Falling e

found_line : (o : Option Line) (line : Line) (a b : Point) → IfSome o (λ l. Passes l a × Passes l b × (a.y ≢ b.y))
    → IfNone o ((l : Line) → Passes l a → Passes l b → a.y ≡ b.y) → Passes line a → Passes line b → a.y ≢ b.y → o ≡ Some line
found_line None line a b s n pa pb ne = absurd (ne (n line pa pb))
found_line (Some l) line a b s n pa pb ne = ap Some (one_line_through l line a b s.0 s.1 pa pb ne)

-- the line of two points of different Y on a line is that line
pub line_is : (a b : Point) (line : Line) → Passes line a → Passes line b → a.y ≢ b.y → line_of a b ≡ Some line
line_is a b line pa pb ne = found_line (line_of a b) line a b (line_of_through a b) (line_of_none a b) pa pb ne

line_up : (line : Line) (y0 y1 : ℤ) → y0 <ℤ y1 → line_of (point_on line y0) (point_on line y1) ≡ Some line
line_up line y0 y1 h = line_is (point_on line y0) (point_on line y1) line refl refl (λ e. absurd (omega (arith, ints, h, e)))

line_down : (line : Line) (y0 y1 : ℤ) → y0 <ℤ y1 → line_of (point_on line y1) (point_on line y0) ≡ Some line
line_down line y0 y1 h = line_is (point_on line y1) (point_on line y0) line refl refl (λ e. absurd (omega (arith, ints, h, e)))

-- whether the tile is in the rows and right of the line
abbrev pub is_beyond : Tile → Line → ℤ → ℤ → Bool
is_beyond t line y0 y1 = (int_le y0 t.j && int_lt t.j y1) && int_le (first_strip line) (strip_along line t)

no_rows : (t : Tile) (y0 y1 : ℤ) → y0 <ℤ y1 → (int_le y1 t.j && int_lt t.j y0) ≡ false
no_rows t y0 y1 h = grind (arith, ints)

no_row : (t : Tile) (y : ℤ) → (int_le y t.j && int_lt t.j y) ≡ false
no_row t y = grind (arith, ints)

-- the side from the lower end of a line up
side_up : (t : Tile) (line : Line) (y0 y1 : ℤ) → y0 <ℤ y1 → crossing_of t (point_on line y0) (point_on line y1) ≡ pos (count_one (is_beyond t line y0 y1))
side_up t line y0 y1 h = rw (line_up line y0 y1 h, no_rows t y0 y1 h) (omega (arith, ints))

-- the side from the upper end of a line down
side_down : (t : Tile) (line : Line) (y0 y1 : ℤ) → y0 <ℤ y1
    → crossing_of t (point_on line y1) (point_on line y0) ≡ neg_ℤ (pos (count_one (is_beyond t line y0 y1)))
side_down t line y0 y1 h = rw (line_down line y0 y1 h, no_rows t y0 y1 h) (omega (arith, ints))

flat_side : (t : Tile) (a b : Point) → a.y ≡ b.y → crossing_of t a b ≡ pos 0
flat_side t a b e = crossing_none t a b (rw (← e) (no_row t a.y)) (rw (← e) (no_row t a.y))

-- the winding of the corners: one where the tile is beyond the left line, less one where it is beyond the right line
pub ring_winding : (z : Trapezoid) (t : Tile) → z.y0 <ℤ z.y1
    → winding (ring_of (corners_of z)) t ≡ pos (count_one (is_beyond t z.left z.y0 z.y1)) -ℤ pos
    (count_one (is_beyond t z.right z.y0 z.y1))
ring_winding z t h =
    omega (
      arith,
      ints,
      winding_along t (corners_of z).a ((corners_of z).b ∷ (corners_of z).c ∷ (corners_of z).d ∷ (corners_of z).a ∷ []),
      side_up t z.left z.y0 z.y1 h,
      side_down t z.right z.y0 z.y1 h,
      flat_side t (point_on z.left z.y1) (point_on z.right z.y1) refl,
      flat_side t (point_on z.right z.y0) (point_on z.left z.y0) refl,
    )

same_by : (p q l r : Bool) (z : Trapezoid) (t : Tile) → int_le z.y0 t.j ≡ p → int_lt t.j z.y1 ≡ q
    → int_le (first_strip z.left) (strip_along z.left t) ≡ l → int_le (first_strip z.right) (strip_along z.right t) ≡ r
    → IsLegal z → (IsInTrapezoid z t → ⊥) → count_one ((p && q) && l) ≡ count_one ((p && q) && r)
same_by false q l r z t ep eq el er legal apart = refl
same_by true false l r z t ep eq el er legal apart = refl
same_by true true true true z t ep eq el er legal apart = refl
same_by true true false false z t ep eq el er legal apart = refl
same_by true true true false z t ep eq el er legal apart = absurd (apart (record {
  above_bottom = int_le_true _ _ ep;
  below_top = int_lt_true _ _ eq;
  right_of_left = int_le_true _ _ el;
  left_of_right = int_le_false _ _ er;
}))
same_by true true false true z t ep eq el er legal apart =
    let right : place z.right t.j ≤ℤ number_in_row t = place_at_most t z.right (int_le_true _ _ er) in
    let places : place z.left t.j <ℤ place z.right t.j = legal_places z t.j legal (int_le_true _ _ ep) (int_lt_true _ _ eq) in
    let reached : IsRightOf t z.left = right_by_place t z.left (omega (arith, ints, right, places)) in
    let short : strip_along z.left t <ℤ first_strip z.left = int_le_false _ _ el in
    absurd (omega (arith, ints, reached, short))

-- a tile outside a legal trapezoid is beyond both its lines or beyond neither
pub outside_same : (z : Trapezoid) (t : Tile) → IsLegal z → (IsInTrapezoid z t → ⊥)
    → count_one (is_beyond t z.left z.y0 z.y1) ≡ count_one (is_beyond t z.right z.y0 z.y1)
outside_same z t legal apart = same_by _ _ _ _ z t refl refl refl refl legal apart

pub inside_left : (z : Trapezoid) (t : Tile) → IsInTrapezoid z t → is_beyond t z.left z.y0 z.y1 ≡ true
inside_left z t h = rw (int_le_yes _ _ h.above_bottom, int_lt_yes _ _ h.below_top, int_le_yes _ _ h.right_of_left) refl

pub inside_right : (z : Trapezoid) (t : Tile) → IsInTrapezoid z t → is_beyond t z.right z.y0 z.y1 ≡ false
inside_right z t h = rw (int_le_yes _ _ h.above_bottom, int_lt_yes _ _ h.below_top, int_le_no _ _ h.left_of_right) refl

-- the corners wind once round each tile of the trapezoid ..
pub ring_inside : (z : Trapezoid) (t : Tile) → IsLegal z → IsInTrapezoid z t → winding (ring_of (corners_of z)) t ≡ pos 1
ring_inside z t legal h = ring_winding z t legal.has_rows ∙ (rw (inside_left z t h, inside_right z t h) refl)

-- .. and round no other
pub ring_outside : (z : Trapezoid) (t : Tile) → IsLegal z → (IsInTrapezoid z t → ⊥) → winding (ring_of (corners_of z)) t ≡ pos 0
ring_outside z t legal apart = ring_winding z t legal.has_rows ∙ (rw (outside_same z t legal apart) (omega (arith, ints)))

once_by : (l r : Bool) (z : Trapezoid) (t : Tile) → is_beyond t z.left z.y0 z.y1 ≡ l → is_beyond t z.right z.y0 z.y1 ≡ r
    → IsLegal z → winding (ring_of (corners_of z)) t ≢ pos 0 → winding (ring_of (corners_of z)) t ≡ pos 1
once_by true false z t el er legal covered = ring_winding z t legal.has_rows ∙ (rw (el, er) refl)
once_by true true z t el er legal covered = absurd (covered (ring_winding z t legal.has_rows ∙ (rw (el, er) refl)))
once_by false false z t el er legal covered = absurd (covered (ring_winding z t legal.has_rows ∙ (rw (el, er) refl)))
once_by false true z t el er legal covered =
    let apart : IsInTrapezoid z t → ⊥ = λ h. (let left = inside_left z t h in cc) in
    let same = outside_same z t legal apart in
    let clash = rw (el, er) at same in
    absurd (omega (arith, clash))

-- a shot's corners are a quadrilateral
pub quad_of_shot : (z : Trapezoid) → IsShot z → IsQuad (corners_of z)
quad_of_shot z h = record {
  a = record { x = h.reach.bottom_left; y = h.reach.y0 };
  b = record { x = h.reach.top_left; y = h.reach.y1 };
  c = record { x = h.reach.top_right; y = h.reach.y1 };
  d = record { x = h.reach.bottom_right; y = h.reach.y0 };
  once = λ t covered. once_by _ _ z t refl refl h.legal covered;
}

pub corners_at : (z : Trapezoid) (bottom top bottom_left top_left top_right bottom_right : ℤ) → bottom ≡ z.y0 → top ≡ z.y1
    → bottom_left ≡ x_on z.left z.y0 → top_left ≡ x_on z.left z.y1 → top_right ≡ x_on z.right z.y1 → bottom_right ≡ x_on z.right z.y0
    → corners (record { x = bottom_left; y = bottom }) (record { x = top_left; y = top })
    (record { x = top_right; y = top }) (record { x = bottom_right; y = bottom }) ≡ corners_of z
corners_at z bottom top bottom_left top_left top_right bottom_right e0 e1 e2 e3 e4 e5 = rw (e0, e1, e2, e3, e4, e5) refl
