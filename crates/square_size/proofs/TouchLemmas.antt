-- A tile over or under a trapezoid that is in another one of a joined list: then their horizontal sides overlap.
use Rattle.std.proofs.Common.{◌≡◌, ℕ, zero, suc, ◌≤◌, ℤ, pos, ◌+ℤ◌, ◌≤ℤ◌, ◌<ℤ◌, arith, refl, ap, sym, Bool, false, Some, List, length, get_or, slice_get}
use Rattle.std.proofs.lemmas.Option.{slice_get_read}
use Rattle.std.proofs.lemmas.Int.{ints, by_lt_z}
use Rattle.std.specs.List.{Contains}
use mathlib.Core.Logic.{inl, inr}
use Rattle.half_grid.specs.JoinedLists.{IsJoined}
use Rattle.half_grid.specs.Lines.{x_on, IsRightOf, IsLeftOf}
use Rattle.half_grid.specs.Rows.{number_in_row}
use Rattle.half_grid.specs.Tiles.{strips_of}
use Rattle.half_grid.specs.Trapezoids.{Trapezoid, IsInTrapezoid, count_in}
use Rattle.half_grid.specs.Windows.{RowRange}
use Rattle.half_grid.specs.declared.plane.Line.{Line}
use Rattle.half_grid.specs.declared.plane.Line.TheVariants.{Upright, Rising, Falling}
use Rattle.half_grid.specs.declared.plane.Tile.{Tile}
use Rattle.half_grid.proofs.ForCallers.{i_low, i_high, p_low, p_high, q_low, q_high, has_in, in_has}
use Rattle.square_size.specs.Levels.{bottom_level, top_level, AreOverlapping, AreMarksOf}
use Rattle.square_size.specs.Lone.{above, below, IsUnder, IsOver, IsTouching, IsLone}
use Rattle.square_size.specs.declared.levels.Level.{Level}
use Rattle.square_size.proofs.Members.{found, one_only}

-- ---- two tiles of a column, one just over the other, with no diagonal between

record IsJustOver (t u : Tile) : Type 0 where
  columns : t.i ≡ u.i
  numbers : number_in_row t ≡ number_in_row u
  rows : t.j ≡ u.j +ℤ pos 1
  sums : (strips_of t).p ≡ (strips_of u).p
  differences : (strips_of t).q ≡ (strips_of u).q

over_below : (z : Trapezoid) (t : Tile) → IsOver z t → IsJustOver t (below t)
over_below z t h = record { columns = refl; numbers = refl; rows = omega (arith, ints); sums = h.shares.sums; differences = h.shares.differences }

over_above : (z : Trapezoid) (t : Tile) → IsUnder z t → IsJustOver (above t) t
over_above z t h = record { columns = refl; numbers = refl; rows = refl; sums = sym h.shares.sums; differences = sym h.shares.differences }

-- both lie on the same side of a line
right_of_upper : (t u : Tile) (line : Line) → IsJustOver t u → IsRightOf u line → IsRightOf t line
right_of_upper t u (Upright c) e h = omega (arith, ints, e.columns, h)
right_of_upper t u (Rising c) e h = omega (arith, ints, e.differences, h)
right_of_upper t u (Falling c) e h = omega (arith, ints, e.sums, h)

right_of_lower : (t u : Tile) (line : Line) → IsJustOver t u → IsRightOf t line → IsRightOf u line
right_of_lower t u (Upright c) e h = omega (arith, ints, e.columns, h)
right_of_lower t u (Rising c) e h = omega (arith, ints, e.differences, h)
right_of_lower t u (Falling c) e h = omega (arith, ints, e.sums, h)

left_of_upper : (t u : Tile) (line : Line) → IsJustOver t u → IsLeftOf u line → IsLeftOf t line
left_of_upper t u (Upright c) e h = omega (arith, ints, e.columns, h)
left_of_upper t u (Rising c) e h = omega (arith, ints, e.differences, h)
left_of_upper t u (Falling c) e h = omega (arith, ints, e.sums, h)

left_of_lower : (t u : Tile) (line : Line) → IsJustOver t u → IsLeftOf t line → IsLeftOf u line
left_of_lower t u (Upright c) e h = omega (arith, ints, e.columns, h)
left_of_lower t u (Rising c) e h = omega (arith, ints, e.differences, h)
left_of_lower t u (Falling c) e h = omega (arith, ints, e.sums, h)

-- a line left of both meets the side between them at its left end at most
left_end : (t u : Tile) (line : Line) → IsJustOver t u → IsRightOf t line → x_on line t.j ≤ℤ t.i
left_end t u (Upright c) e h = omega (arith, ints, h)
left_end t u (Rising c) e h = omega (arith, ints, h, q_low t, i_high t)
left_end t u (Falling c) e h = omega (arith, ints, h, e.numbers, e.rows, e.sums, p_low u, i_high t)

-- a line right of both meets it at its right end at least
right_end : (t u : Tile) (line : Line) → IsJustOver t u → IsLeftOf t line → (t.i +ℤ pos 1) ≤ℤ x_on line t.j
right_end t u (Upright c) e h = omega (arith, ints, h)
right_end t u (Rising c) e h = omega (arith, ints, h, e.numbers, e.rows, e.differences, q_high u, i_low t)
right_end t u (Falling c) e h = omega (arith, ints, h, p_high t, i_low t)

-- a line left of both begins left of one that is right of both
ends_apart : (t u : Tile) (left right : Line) (y v : ℤ) → IsJustOver t u → y ≡ t.j → v ≡ t.j → IsRightOf t left → IsLeftOf t right
    → x_on left y <ℤ x_on right v
ends_apart t u left right y v e ey ev l r =
    let a = left_end t u left e l in
    let b = right_end t u right e r in
    rw (ey, ev) (omega (arith, ints, a, b))

-- ---- no member of the list has a tile over or under one that isn't marked

none_counted : (n : ℕ) → (1 ≤ n → ⊥) → n ≡ 0
none_counted zero h = refl
none_counted (suc n) h = absurd (h (omega arith))

module _ (window : RowRange) (traps : List Trapezoid) (joined : IsJoined window traps) (z : Trapezoid) (member : Contains traps z) where
  -- a tile of z is in no other member
  is_itself : (w : Trapezoid) (t : Tile) → Contains traps w → IsInTrapezoid w t → IsInTrapezoid z t → w ≡ z
  is_itself w t hw inw inz = one_only t traps w z (joined.apart t) hw member (in_has t w inw) (in_has t z inz)

  over_clash : (w : Trapezoid) (t : Tile) → Contains traps w → IsOver z t → IsInTrapezoid w t
      → (AreOverlapping (bottom_level w) (top_level z) → ⊥) → ⊥
  over_clash w t hw over has free =
      let just = over_below z t over in
      by_lt_z w.y0 t.j
      (λ lt. (let lower : IsInTrapezoid w (below t) = record {
        above_bottom = omega (arith, ints, lt);
        below_top = omega (arith, ints, has.below_top);
        right_of_left = right_of_lower t (below t) w.left just has.right_of_left;
        left_of_right = left_of_lower t (below t) w.right just has.left_of_right;
      } in
      let e = is_itself w (below t) hw lower over.inside in
      let top : w.y1 ≡ z.y1 = ap (λ (x : Trapezoid). x.y1) e in
      omega (arith, ints, top, over.row, has.below_top)))
      (λ le. (let bottom : w.y0 ≡ t.j = omega (arith, ints, le, has.above_bottom) in
      free (record {
        ys = omega (arith, ints, bottom, over.row);
        starts = ends_apart t (below t) w.left z.right w.y0 z.y1 just bottom (sym over.row) has.right_of_left
            (left_of_upper t (below t) z.right just over.inside.left_of_right);
        ends = ends_apart t (below t) z.left w.right z.y1 w.y0 just (sym over.row) bottom
            (right_of_upper t (below t) z.left just over.inside.right_of_left) has.left_of_right;
      })))

  under_clash : (w : Trapezoid) (t : Tile) → Contains traps w → IsUnder z t → IsInTrapezoid w t
      → (AreOverlapping (top_level w) (bottom_level z) → ⊥) → ⊥
  under_clash w t hw under has free =
      let just = over_above z t under in
      let right = right_of_upper (above t) t w.left just has.right_of_left in
      let left = left_of_upper (above t) t w.right just has.left_of_right in
      by_lt_z (t.j +ℤ pos 1) w.y1
      (λ lt. (let upper : IsInTrapezoid w (above t) = record {
        above_bottom = omega (arith, ints, has.above_bottom);
        below_top = lt;
        right_of_left = right;
        left_of_right = left;
      } in
      let e = is_itself w (above t) hw upper under.inside in
      let bottom : w.y0 ≡ z.y0 = ap (λ (x : Trapezoid). x.y0) e in
      omega (arith, ints, bottom, under.row, has.above_bottom)))
      (λ le. (let top : w.y1 ≡ t.j +ℤ pos 1 = omega (arith, ints, le, has.below_top) in
      free (record {
        ys = omega (arith, ints, top, under.row);
        starts = ends_apart (above t) t w.left z.right w.y1 z.y0 just top (sym under.row) right under.inside.left_of_right;
        ends = ends_apart (above t) t z.left w.right z.y0 w.y1 just (sym under.row) top under.inside.right_of_left left;
      })))

  touched_none : ((w : Trapezoid) → Contains traps w → AreOverlapping (bottom_level w) (top_level z) → ⊥)
      → ((w : Trapezoid) → Contains traps w → AreOverlapping (top_level w) (bottom_level z) → ⊥)
      → (t : Tile) → IsTouching z t → count_in traps t ≡ 0
  touched_none over_free under_free t (inl beside) = joined.ends_free z t member beside
  touched_none over_free under_free t (inr (inl under)) = none_counted (count_in traps t) (λ some.
      (let w = found t traps some in under_clash w.0 t w.1 under (has_in t w.0 w.2) (under_free w.0 w.1)))
  touched_none over_free under_free t (inr (inr over)) = none_counted (count_in traps t) (λ some.
      (let w = found t traps some in over_clash w.0 t w.1 over (has_in t w.0 w.2) (over_free w.0 w.1)))

overlap_turned : (a b : Level) → AreOverlapping a b → AreOverlapping b a
overlap_turned a b h = record { ys = sym h.ys; starts = h.ends; ends = h.starts }

read_at : (traps : List Trapezoid) (z : Trapezoid) (h : Contains traps z) → slice_get traps h.0 ≡ Some z
read_at traps z h = slice_get_read traps (length traps) h.0 z refl h.1 (sym h.2)

-- A member that isn't marked is alone.
pub lone_by_marks : (window : RowRange) (traps : List Trapezoid) (marks : List Bool) (z : Trapezoid) (k : ℕ) → AreMarksOf traps marks → IsJoined window traps
    → slice_get traps k ≡ Some z → get_or marks k false ≡ false → Contains traps z → IsLone traps z
lone_by_marks window traps marks z k are joined at not member = λ t. touched_none window traps joined z member
    (λ w h lap. (let set = (are.apart k h.0 z w at (read_at traps w h) (overlap_turned _ _ lap)).0 in cc))
    (λ w h lap. (let set = (are.apart h.0 k w z (read_at traps w h) at lap).1 in cc))
    t
