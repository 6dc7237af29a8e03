-- The winding of an outline of four corners with two level sides: that of its trapezoid, or less than 0 by as much.
use Rattle.std.proofs.Common.{◌≡◌, ◌⊎◌, inl, inr, ℕ, ◌≤◌, ◌<◌, length, slice_index_or, Bool, true, false, ◌&&◌, ℤ}
use Rattle.std.proofs.Common.{pos, ◌+ℤ◌, ◌-ℤ◌, ◌<ℤ◌, neg_ℤ, arith, refl, ap, sym, ◌∙◌, Some, List, [], ◌∷◌}
use Rattle.std.specs.Prelude.{int_le, int_lt}
use Rattle.std.proofs.lemmas.Int.{ints}
use Rattle.half_grid.specs.Lines.{line_of, strip_along, first_strip}
use Rattle.half_grid.specs.Outlines.{IsClosed}
use Rattle.half_grid.specs.Quads.{corners_of, ring_of}
use Rattle.half_grid.specs.Trapezoids.{Trapezoid, IsInTrapezoid, IsShot, CoversExactly, trapezoid, trapezoid_has, count_in}
use Rattle.half_grid.specs.Winding.{winding, crossing_of, count_one, IsInPolygon}
use Rattle.half_grid.specs.declared.plane.Line.{Line}
use Rattle.half_grid.specs.declared.plane.Point.{Point}
use Rattle.half_grid.specs.declared.plane.Tile.{Tile}
use Rattle.half_grid.proofs.ForCallers.{winding_along, crossing_none, ring_winding, ring_inside, ring_outside, count_by-cons, has_in, in_has}
use Rattle.bool_ops.specs.Lone.{HasSides, IsSlabOf, IsBetween}
use Rattle.bool_ops.specs.declared.lone.Sides.{Sides}
use Rattle.bool_ops.specs.declared.lone.Slab.{Slab}

pub no_row : (t : Tile) (y : ℤ) → (int_le y t.j && int_lt t.j y) ≡ false
no_row t y = grind (arith, ints)

no_rows : (t : Tile) (y0 y1 : ℤ) → y0 <ℤ y1 → (int_le y1 t.j && int_lt t.j y0) ≡ false
no_rows t y0 y1 h = grind (arith, ints)

pub level : (t : Tile) (a b : Point) → a.y ≡ b.y → crossing_of t a b ≡ pos 0
level t a b e = crossing_none t a b (rw (← e) (no_row t a.y)) (rw (← e) (no_row t a.y))

-- ---- the sides

module _ (a b c d e : Point) (closed : IsClosed (a ∷ b ∷ c ∷ d ∷ e ∷ [])) where
  pub sides_first : b.y ≡ c.y → d.y ≡ a.y → (t : Tile) → winding (a ∷ b ∷ c ∷ d ∷ e ∷ []) t ≡ crossing_of t a b +ℤ crossing_of t c d
  sides_first p q t =
      let last : d.y ≡ e.y = q ∙ ap (λ (x : Point). x.y) (sym closed) in
      omega (arith, ints, winding_along t a (b ∷ c ∷ d ∷ e ∷ []), level t b c p, level t d e last)

  pub sides_second : a.y ≡ b.y → c.y ≡ d.y → (t : Tile) → winding (a ∷ b ∷ c ∷ d ∷ e ∷ []) t ≡ crossing_of t b c +ℤ crossing_of t d a
  sides_second p q t =
      let last : crossing_of t d e ≡ crossing_of t d a = ap (crossing_of t d) closed in
      omega (arith, ints, winding_along t a (b ∷ c ∷ d ∷ e ∷ []), level t a b p, level t c d q, last)

-- ---- what a side counts

-- whether the tile is in the rows and right of the line
abbrev pub is_beyond : Tile → Line → ℤ → ℤ → Bool
is_beyond t line y0 y1 = (int_le y0 t.j && int_lt t.j y1) && int_le (first_strip line) (strip_along line t)

pub side_up : (t : Tile) (a b : Point) (line : Line) → line_of a b ≡ Some line → a.y <ℤ b.y
    → crossing_of t a b ≡ pos (count_one (is_beyond t line a.y b.y))
side_up t a b line e h = rw (e, no_rows t a.y b.y h) (omega (arith, ints))

pub side_down : (t : Tile) (a b : Point) (line : Line) → line_of a b ≡ Some line → b.y <ℤ a.y
    → crossing_of t a b ≡ neg_ℤ (pos (count_one (is_beyond t line b.y a.y)))
side_down t a b line e h = rw (e, no_rows t b.y a.y h) (omega (arith, ints))

-- the winding of the sides of a slab: one where the tile is beyond the first line, less one where it is beyond the second
abbrev pub between : Tile → Slab → ℤ
between t slab = pos (count_one (is_beyond t slab.first slab.y0 slab.y1)) -ℤ pos (count_one (is_beyond t slab.second slab.y0 slab.y1))

-- the winding is this number, or less than 0 by as much
abbrev pub IsUpTo : ℤ → ℤ → Type 0
IsUpTo w n = (w ≡ n) ⊎ (w ≡ neg_ℤ n)

side_up_at : (t : Tile) (a b : Point) (line : Line) (y0 y1 : ℤ) → line_of a b ≡ Some line → y0 ≡ a.y → y1 ≡ b.y → y0 <ℤ y1
    → crossing_of t a b ≡ pos (count_one (is_beyond t line y0 y1))
side_up_at t a b line y0 y1 e low high h = let up : a.y <ℤ b.y = omega (arith, ints, low, high, h) in rw (low, high) (side_up t a b line e up)

side_down_at : (t : Tile) (a b : Point) (line : Line) (y0 y1 : ℤ) → line_of a b ≡ Some line → y0 ≡ b.y → y1 ≡ a.y → y0 <ℤ y1
    → crossing_of t a b ≡ neg_ℤ (pos (count_one (is_beyond t line y0 y1)))
side_down_at t a b line y0 y1 e low high h = let down : b.y <ℤ a.y = omega (arith, ints, low, high, h) in rw (low, high) (side_down t a b line e down)

module _ (points : List Point) (s : Sides) (slab : Slab) (t : Tile) (sides : HasSides points s) (rows : slab.y0 <ℤ slab.y1) where
  first_up : IsSlabOf s slab → slab.y0 ≡ s.first.from.y → slab.y1 ≡ s.first.to.y → winding points t ≡ between t slab
  first_up of low high =
      let up = side_up_at t s.first.from s.first.to slab.first slab.y0 slab.y1 of.first low high rows in
      let down = side_down_at t s.second.from s.second.to slab.second slab.y0 slab.y1 of.second (low ∙ sym sides.far) (high ∙ sides.near) rows in
      omega (arith, ints, sides.windings t, up, down)

  first_down : IsSlabOf s slab → slab.y0 ≡ s.first.to.y → slab.y1 ≡ s.first.from.y → winding points t ≡ neg_ℤ (between t slab)
  first_down of low high =
      let down = side_down_at t s.first.from s.first.to slab.first slab.y0 slab.y1 of.first low high rows in
      let up = side_up_at t s.second.from s.second.to slab.second slab.y0 slab.y1 of.second (low ∙ sides.near) (high ∙ sym sides.far) rows in
      omega (arith, ints, sides.windings t, up, down)

  by_rows : IsSlabOf s slab → ((slab.y0 ≡ s.first.from.y) × (slab.y1 ≡ s.first.to.y)) ⊎ ((slab.y0 ≡ s.first.to.y) × (slab.y1 ≡ s.first.from.y))
      → IsUpTo (winding points t) (between t slab)
  by_rows of (inl e) = inl (first_up of e.0 e.1)
  by_rows of (inr e) = inr (first_down of e.0 e.1)

-- ---- the trapezoid between the lines

ring_straight : (slab : Slab) (t : Tile) → slab.y0 <ℤ slab.y1
    → winding (ring_of (corners_of (trapezoid slab.y0 slab.y1 slab.first slab.second))) t ≡ between t slab
ring_straight slab t rows = ring_winding (trapezoid slab.y0 slab.y1 slab.first slab.second) t rows

ring_turned : (slab : Slab) (t : Tile) → slab.y0 <ℤ slab.y1
    → winding (ring_of (corners_of (trapezoid slab.y0 slab.y1 slab.second slab.first))) t ≡ neg_ℤ (between t slab)
ring_turned slab t rows = let w = ring_winding (trapezoid slab.y0 slab.y1 slab.second slab.first) t rows in omega (arith, ints, w)

pub ring_between : (slab : Slab) (z : Trapezoid) (t : Tile) → slab.y0 <ℤ slab.y1
    → (z ≡ trapezoid slab.y0 slab.y1 slab.first slab.second) ⊎ (z ≡ trapezoid slab.y0 slab.y1 slab.second slab.first)
    → IsUpTo (winding (ring_of (corners_of z)) t) (between t slab)
ring_between slab z t rows (inl e) = inl (ap (λ (y : Trapezoid). winding (ring_of (corners_of y)) t) e ∙ ring_straight slab t rows)
ring_between slab z t rows (inr e) = inr (ap (λ (y : Trapezoid). winding (ring_of (corners_of y)) t) e ∙ ring_turned slab t rows)

pub slab_rows : (slab : Slab) (z : Trapezoid) → IsShot z
    → (z ≡ trapezoid slab.y0 slab.y1 slab.first slab.second) ⊎ (z ≡ trapezoid slab.y0 slab.y1 slab.second slab.first) → slab.y0 <ℤ slab.y1
slab_rows slab z shot (inl e) = let h = shot.legal.has_rows in omega (arith, ints, h, ap (λ (y : Trapezoid). y.y0) e, ap (λ (y : Trapezoid). y.y1) e)
slab_rows slab z shot (inr e) = let h = shot.legal.has_rows in omega (arith, ints, h, ap (λ (y : Trapezoid). y.y0) e, ap (λ (y : Trapezoid). y.y1) e)

pub both_up_to : (w r n : ℤ) → IsUpTo w n → IsUpTo r n → IsUpTo w r
both_up_to w r n (inl e) (inl f) = inl (e ∙ sym f)
both_up_to w r n (inl e) (inr f) = inr (omega (arith, ints, e, f))
both_up_to w r n (inr e) (inl f) = inr (omega (arith, ints, e, f))
both_up_to w r n (inr e) (inr f) = inl (e ∙ sym f)

-- ---- the tiles

none_of : (w r : ℤ) → IsUpTo w r → r ≡ pos 0 → w ≡ pos 0
none_of w r (inl e) f = e ∙ f
none_of w r (inr e) f = omega (arith, ints, e, f)

some_of : (w r : ℤ) → IsUpTo w r → r ≡ pos 1 → w ≡ pos 0 → ⊥
some_of w r (inl e) f g = absurd (omega (arith, ints, e, f, g))
some_of w r (inr e) f g = absurd (omega (arith, ints, e, f, g))

count_of : (z : Trapezoid) (t : Tile) (has : Bool) → trapezoid_has t z ≡ has → count_in (z ∷ []) t ≡ count_one has
count_of z t has e = let n = count_by-cons (trapezoid_has t) z [] in omega (arith, n, ap count_one e)

module _ (points : List Point) (z : Trapezoid) (shot : IsShot z) (winds : (t : Tile) → IsUpTo (winding points t) (winding (ring_of (corners_of z)) t)) where
  once_by : (t : Tile) (has : Bool) → trapezoid_has t z ≡ has → IsInPolygon points t → count_in (z ∷ []) t ≡ 1
  once_by t true e h = count_of z t true e
  once_by t false e h =
      let out : IsInTrapezoid z t → ⊥ = λ inside. (let clash : true ≡ false = sym (in_has t z inside) ∙ e in cc) in
      absurd (h (none_of _ _ (winds t) (ring_outside z t shot.legal out)))

  never_by : (t : Tile) (has : Bool) → trapezoid_has t z ≡ has → (IsInPolygon points t → ⊥) → count_in (z ∷ []) t ≡ 0
  never_by t false e h = count_of z t false e
  never_by t true e h = absurd (h (λ none. some_of _ _ (winds t) (ring_inside z t shot.legal (has_in t z e)) none))

  covers_of : CoversExactly (z ∷ []) (IsInPolygon points)
  covers_of = record { once = λ t h. once_by t (trapezoid_has t z) refl h; never = λ t h. never_by t (trapezoid_has t z) refl h }

-- the trapezoid between the two sides has the outline's tiles
pub lone_covers : (points : List Point) (s : Sides) (slab : Slab) (z : Trapezoid) → HasSides points s → IsSlabOf s slab → IsBetween slab z
    → CoversExactly (z ∷ []) (IsInPolygon points)
lone_covers points s slab z sides of it =
    let rows = slab_rows slab z it.shot it.is in
    covers_of points z it.shot (λ t. both_up_to (winding points t) (winding (ring_of (corners_of z)) t) (between t slab)
    (by_rows points s slab t sides rows of of.rows) (ring_between slab z t rows it.is))

-- ---- the points of the list

abbrev pub origin : Point
origin = record { x = pos 0; y = pos 0 }

abbrev pub point_at : List Point → ℕ → Point
point_at points n = slice_index_or points n origin

abbrev pub sides : Point → Point → Point → Point → Sides
sides a b c d = record { first = record { from = a; to = b }; second = record { from = c; to = d } }

pub sides_one : (points : List Point) → IsClosed points → 5 ≤ length points → length points < 6
    → (point_at points 1).y ≡ (point_at points 2).y → (point_at points 3).y ≡ (point_at points 0).y
    → HasSides points (sides (point_at points 0) (point_at points 1) (point_at points 2) (point_at points 3))
sides_one [] closed least few p q = absurd closed
sides_one (a ∷ []) closed least few p q = absurd (omega (arith, least))
sides_one (a ∷ b ∷ []) closed least few p q = absurd (omega (arith, least))
sides_one (a ∷ b ∷ c ∷ []) closed least few p q = absurd (omega (arith, least))
sides_one (a ∷ b ∷ c ∷ d ∷ []) closed least few p q = absurd (omega (arith, least))
sides_one (a ∷ b ∷ c ∷ d ∷ e ∷ []) closed least few p q = record { windings = sides_first a b c d e closed p q; near = p; far = q }
sides_one (a ∷ b ∷ c ∷ d ∷ e ∷ f ∷ points) closed least few p q = absurd (omega (arith, few))

pub sides_two : (points : List Point) → IsClosed points → 5 ≤ length points → length points < 6
    → (point_at points 0).y ≡ (point_at points 1).y → (point_at points 2).y ≡ (point_at points 3).y
    → HasSides points (sides (point_at points 1) (point_at points 2) (point_at points 3) (point_at points 0))
sides_two [] closed least few p q = absurd closed
sides_two (a ∷ []) closed least few p q = absurd (omega (arith, least))
sides_two (a ∷ b ∷ []) closed least few p q = absurd (omega (arith, least))
sides_two (a ∷ b ∷ c ∷ []) closed least few p q = absurd (omega (arith, least))
sides_two (a ∷ b ∷ c ∷ d ∷ []) closed least few p q = absurd (omega (arith, least))
sides_two (a ∷ b ∷ c ∷ d ∷ e ∷ []) closed least few p q = record { windings = sides_second a b c d e closed p q; near = q; far = p }
sides_two (a ∷ b ∷ c ∷ d ∷ e ∷ f ∷ points) closed least few p q = absurd (omega (arith, few))
