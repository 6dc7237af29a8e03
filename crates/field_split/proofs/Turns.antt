-- The rows at which a line passes an upright one.
use Rattle.std.proofs.Common.{◌≡◌, Bool, true, false, cond, ℤ, ◌+ℤ◌, ◌≤ℤ◌, ◌<ℤ◌, arith, refl, int_lt}
use Rattle.std.proofs.lemmas.Int.{ints, clamps}
use mathlib.Core.Logic.{◌⊎◌, inl, inr}
use Rattle.half_grid.specs.Halves.{twice}
use Rattle.half_grid.specs.Rows.{place}
use Rattle.half_grid.specs.declared.plane.Line.{Line}
use Rattle.half_grid.specs.declared.plane.Line.TheVariants.{Upright, Rising, Falling}
use Rattle.field_split.specs.declared.parts.Rows.{Rows}
use Rattle.field_split.specs.Cutting.{rows, turn, rows_left_of, rows_right_of}

-- tests on whole numbers by the facts that they decide
pub lt_yes : (x y : ℤ) → x <ℤ y → int_lt x y ≡ true
lt_yes x y h = grind (arith, ints)

pub lt_no : (x y : ℤ) → y ≤ℤ x → int_lt x y ≡ false
lt_no x y h = grind (arith, ints)

pub lt_true : (x y : ℤ) → int_lt x y ≡ true → x <ℤ y
lt_true x y h = grind (arith, ints)

pub lt_false : (x y : ℤ) → int_lt x y ≡ false → y ≤ℤ x
lt_false x y h = grind (arith, ints)

-- a row of a range
pub record IsRow (range : Rows) (j : ℤ) : Type 0 where
  pub from : range.y0 ≤ℤ j
  pub below : j <ℤ range.y1

-- the turn is a Y of the rows
pub turn_low : (l : Line) (x : ℤ) (range : Rows) → range.y0 ≤ℤ range.y1 → range.y0 ≤ℤ turn l x range
unfolding turn
turn_low (Upright c) x range h = omega (arith, ints, clamps)
turn_low (Rising c) x range h = omega (arith, ints, clamps)
turn_low (Falling c) x range h = omega (arith, ints, clamps)

pub turn_high : (l : Line) (x : ℤ) (range : Rows) → range.y0 ≤ℤ range.y1 → turn l x range ≤ℤ range.y1
unfolding turn
turn_high (Upright c) x range h = omega (arith, ints, clamps)
turn_high (Rising c) x range h = omega (arith, ints, clamps)
turn_high (Falling c) x range h = omega (arith, ints, clamps)

-- two rows on one side of the turn
pub record OnOneSide (y j k : ℤ) : Type 0 where
  pub side : ((j <ℤ y) × (k <ℤ y)) ⊎ ((y ≤ℤ j) × (y ≤ℤ k))

module _ (range : Rows) (x j k : ℤ) (hj : IsRow range j) (hk : IsRow range k) where
  left_below : (l : Line) → j <ℤ turn l x range → k <ℤ turn l x range → place l j <ℤ twice x → place l k <ℤ twice x
  unfolding turn
  left_below (Upright c) a b h = omega (arith, ints, h)
  left_below (Rising c) a b h = omega (arith, ints, clamps, h, hj.from, hj.below, hk.from, hk.below)
  left_below (Falling c) a b h = omega (arith, ints, clamps, h, hj.from, hj.below, hk.from, hk.below)

  left_from : (l : Line) → turn l x range ≤ℤ j → turn l x range ≤ℤ k → place l j <ℤ twice x → place l k <ℤ twice x
  unfolding turn
  left_from (Upright c) a b h = omega (arith, ints, h)
  left_from (Rising c) a b h = omega (arith, ints, clamps, h, hj.from, hj.below, hk.from, hk.below)
  left_from (Falling c) a b h = omega (arith, ints, clamps, h, hj.from, hj.below, hk.from, hk.below)

  pub stays_left : (l : Line) → OnOneSide (turn l x range) j k → place l j <ℤ twice x → place l k <ℤ twice x
  stays_left l o h = elim o.side [ inl s ↦ left_below l s.0 s.1 h | inr s ↦ left_from l s.0 s.1 h ]

  right_below : (l : Line) → j <ℤ turn l x range → k <ℤ turn l x range → twice x <ℤ place l j → twice x <ℤ place l k
  unfolding turn
  right_below (Upright c) a b h = omega (arith, ints, h)
  right_below (Rising c) a b h = omega (arith, ints, clamps, h, hj.from, hj.below, hk.from, hk.below)
  right_below (Falling c) a b h = omega (arith, ints, clamps, h, hj.from, hj.below, hk.from, hk.below)

  right_from : (l : Line) → turn l x range ≤ℤ j → turn l x range ≤ℤ k → twice x <ℤ place l j → twice x <ℤ place l k
  unfolding turn
  right_from (Upright c) a b h = omega (arith, ints, h)
  right_from (Rising c) a b h = omega (arith, ints, clamps, h, hj.from, hj.below, hk.from, hk.below)
  right_from (Falling c) a b h = omega (arith, ints, clamps, h, hj.from, hj.below, hk.from, hk.below)

  pub stays_right : (l : Line) → OnOneSide (turn l x range) j k → twice x <ℤ place l j → twice x <ℤ place l k
  stays_right l o h = elim o.side [ inl s ↦ right_below l s.0 s.1 h | inr s ↦ right_from l s.0 s.1 h ]

  -- past the turn it has changed sides
  pub turned : (l : Line) → j <ℤ turn l x range → turn l x range ≤ℤ k
      → ((place l j <ℤ twice x) × (twice x <ℤ place l k)) ⊎ ((twice x <ℤ place l j) × (place l k <ℤ twice x))
  unfolding turn
  turned (Upright c) a b = absurd (omega (arith, ints, clamps, a, hj.from, hj.below))
  turned (Rising c) a b = inl (
    omega (arith, ints, clamps, a, b, hj.from, hj.below, hk.from, hk.below),
    omega
        (arith, ints, clamps, a, b, hj.from, hj.below, hk.from, hk.below),
  )
  turned (Falling c) a b = inr (
    omega (arith, ints, clamps, a, b, hj.from, hj.below, hk.from, hk.below),
    omega
        (arith, ints, clamps, a, b, hj.from, hj.below, hk.from, hk.below),
  )

-- ---- the rows in which a line lies left or right of an upright one

-- some rows of a range
pub record AreRowsOf (range part : Rows) : Type 0 where
  pub low : range.y0 ≤ℤ part.y0
  pub order : part.y0 ≤ℤ part.y1
  pub high : part.y1 ≤ℤ range.y1

upright_rows : (b : Bool) (range : Rows) → range.y0 ≤ℤ range.y1 → AreRowsOf range (cond b range (rows range.y0 range.y0))
upright_rows true range h = record { low = omega (arith, ints); order = h; high = omega (arith, ints) }
upright_rows false range h = record { low = omega (arith, ints); order = omega (arith, ints); high = h }

pub left_rows : (l : Line) (x : ℤ) (range : Rows) → range.y0 ≤ℤ range.y1 → AreRowsOf range (rows_left_of l x range)
unfolding rows_left_of
left_rows (Upright c) x range h = upright_rows (int_lt c x) range h
left_rows (Rising c) x range h = record { low = omega (arith, ints); order = omega (arith, ints, clamps); high = omega (arith, ints, clamps) }
left_rows (Falling c) x range h = record { low = omega (arith, ints, clamps); order = omega (arith, ints, clamps); high = omega (arith, ints) }

pub right_rows : (l : Line) (x : ℤ) (range : Rows) → range.y0 ≤ℤ range.y1 → AreRowsOf range (rows_right_of l x range)
unfolding rows_right_of
right_rows (Upright c) x range h = upright_rows (int_lt x c) range h
right_rows (Rising c) x range h = record { low = omega (arith, ints, clamps); order = omega (arith, ints, clamps); high = omega (arith, ints) }
right_rows (Falling c) x range h = record { low = omega (arith, ints); order = omega (arith, ints, clamps); high = omega (arith, ints, clamps) }

left_by : (b : Bool) (c x : ℤ) (range : Rows) (j : ℤ) → int_lt c x ≡ b → IsRow (cond b range (rows range.y0 range.y0)) j → (c +ℤ c) <ℤ twice x
left_by true c x range j e h = let lt = lt_true c x e in omega (arith, ints, lt)
left_by false c x range j e h = absurd (omega (arith, ints, h.from, h.below))

-- in them it lies there ..
pub lies_left : (l : Line) (x : ℤ) (range : Rows) (j : ℤ) → IsRow (rows_left_of l x range) j → place l j <ℤ twice x
unfolding rows_left_of
lies_left (Upright c) x range j h = left_by _ c x range j refl h
lies_left (Rising c) x range j h = omega (arith, ints, clamps, h.from, h.below)
lies_left (Falling c) x range j h = omega (arith, ints, clamps, h.from, h.below)

pub lies_right : (l : Line) (x : ℤ) (range : Rows) (j : ℤ) → IsRow (rows_right_of l x range) j → twice x <ℤ place l j
unfolding rows_right_of
lies_right (Upright c) x range j h = left_by _ x c range j refl h
lies_right (Rising c) x range j h = omega (arith, ints, clamps, h.from, h.below)
lies_right (Falling c) x range j h = omega (arith, ints, clamps, h.from, h.below)

kept_by : (b : Bool) (range : Rows) (j : ℤ) → b ≡ true → IsRow range j → IsRow (cond b range (rows range.y0 range.y0)) j
kept_by true range j e h = h
kept_by false range j e h = absurd cc

-- .. and a row in which it lies there is one of them
pub is_left_row : (l : Line) (x : ℤ) (range : Rows) (j : ℤ) → IsRow range j → place l j <ℤ twice x → IsRow (rows_left_of l x range) j
unfolding rows_left_of
is_left_row (Upright c) x range j h lt = kept_by (int_lt c x) range j (lt_yes c x (omega (arith, ints, lt))) h
is_left_row (Rising c) x range j h lt = record { from = h.from; below = omega (arith, ints, clamps, h.from, h.below, lt) }
is_left_row (Falling c) x range j h lt = record { from = omega (arith, ints, clamps, h.from, h.below, lt); below = h.below }

pub is_right_row : (l : Line) (x : ℤ) (range : Rows) (j : ℤ) → IsRow range j → twice x <ℤ place l j → IsRow (rows_right_of l x range) j
unfolding rows_right_of
is_right_row (Upright c) x range j h lt = kept_by (int_lt x c) range j (lt_yes x c (omega (arith, ints, lt))) h
is_right_row (Rising c) x range j h lt = record { from = omega (arith, ints, clamps, h.from, h.below, lt); below = h.below }
is_right_row (Falling c) x range j h lt = record { from = h.from; below = omega (arith, ints, clamps, h.from, h.below, lt) }
