-- A joined list that is cut to some rows is the joined list there.
use Rattle.std.proofs.Common.{◌≡◌, ℕ, ◌+◌, ◌≤◌, ℤ, pos, ◌+ℤ◌, ◌-ℤ◌, ◌≤ℤ◌, ◌<ℤ◌, Bool, true, false, ◌&&◌, int_le}
use Rattle.std.proofs.Common.{int_lt, arith, refl, sym, ap, subst, ◌∙◌, List, [], ◌∷◌, ◌++◌, map, filter}
use Rattle.std.proofs.lemmas.Int.{ints, clamps, by_lt_z}
use Rattle.std.proofs.lemmas.List.Elements.{All-append, All-weaker, All-contains, All-head, All-tail}
use Rattle.std.proofs.lemmas.List.Sorted.{All-permutation, sum_by-IsPermutation}
use Rattle.std.proofs.lemmas.List.Sums.{sum_by-append}
use Rattle.std.specs.Int.{int_min, int_max}
use Rattle.std.specs.List.{All, Contains}
use Rattle.std.specs.Prelude.{IsPermutation}
use mathlib.Core.Logic.{◌⊎◌, inl, inr}
use Rattle.half_grid.specs.JoinedLists.{IsInWindow, IsBeside, StandsBefore, StandInOrder, IsJoined}
use Rattle.half_grid.specs.Lines.{x_on}
use Rattle.half_grid.specs.Reach.{IsWithinReach}
use Rattle.half_grid.specs.Rows.{place}
use Rattle.half_grid.specs.Trapezoids.{Trapezoid, trapezoid, IsInTrapezoid, IsLegal, IsShot, count_in, trapezoid_has}
use Rattle.half_grid.specs.Winding.{count_one}
use Rattle.half_grid.specs.Windows.{RowRange}
use Rattle.half_grid.specs.declared.plane.Line.{Line}
use Rattle.half_grid.specs.declared.plane.Tile.{Tile}
use Rattle.half_grid.proofs.ForCallers.{has_in, in_has, count_by-cons, tile_with, legal_places}
use Rattle.trap_join.proofs.ForCallers.{all_members, counted, in_at, origin, passing, order_append}
use Rattle.bool_ops.specs.Operations.{IsInRows}
use Rattle.fracture.proofs.ForCallers.{below_shot, from_row_shot}
use Rattle.band_areas.specs.Cuts.{cut_to, ends_in, reaches_top, top_place, PlacesAscend, IsCutTo}

-- ---- tests

both : (a b : Bool) → (a && b) ≡ true → (a ≡ true) × (b ≡ true)
both true true e = (refl, refl)
both true false e = absurd cc
both false b e = absurd cc

lt_is : (x y : ℤ) → int_lt x y ≡ true → x <ℤ y
lt_is x y h = grind (arith, ints)

le_is : (x y : ℤ) → int_le x y ≡ true → x ≤ℤ y
le_is x y h = grind (arith, ints)

lt_yes : (x y : ℤ) → x <ℤ y → int_lt x y ≡ true
lt_yes x y h = grind (arith, ints)

le_yes : (x y : ℤ) → x ≤ℤ y → int_le x y ≡ true
le_yes x y h = grind (arith, ints)

-- two trapezoids of which both have the tile, or neither
same_by : (y z : Trapezoid) (t : Tile) → (IsInTrapezoid y t → IsInTrapezoid z t) → (IsInTrapezoid z t → IsInTrapezoid y t)
    → (a b : Bool) → trapezoid_has t y ≡ a → trapezoid_has t z ≡ b → a ≡ b
same_by y z t f g true true d e = refl
same_by y z t f g true false d e = let yes = in_has t z (f (has_in t y d)) in absurd cc
same_by y z t f g false true d e = let yes = in_has t y (g (has_in t z e)) in absurd cc
same_by y z t f g false false d e = refl

same_test : (y z : Trapezoid) (t : Tile) → (IsInTrapezoid y t → IsInTrapezoid z t)
    → (IsInTrapezoid z t → IsInTrapezoid y t) → trapezoid_has t y ≡ trapezoid_has t z
same_test y z t f g = same_by y z t f g _ _ refl refl

no_by : (z : Trapezoid) (t : Tile) → (IsInTrapezoid z t → ⊥) → (b : Bool) → trapezoid_has t z ≡ b → b ≡ false
no_by z t h true e = absurd (h (has_in t z e))
no_by z t h false e = refl

no_test : (z : Trapezoid) (t : Tile) → (IsInTrapezoid z t → ⊥) → trapezoid_has t z ≡ false
no_test z t h = no_by z t h _ refl

-- ---- one trapezoid

-- it has rows among these
pub record Meets (rows : RowRange) (z : Trapezoid) : Type 0 where
  pub begins : z.y0 <ℤ rows.y1
  pub ends : rows.y0 <ℤ z.y1

meets_ended : (rows : RowRange) (z : Trapezoid) → rows.y0 <ℤ rows.y1 → z.y0 <ℤ z.y1 → ends_in rows z ≡ true → Meets rows z
meets_ended rows z some legal e =
    let p = both (int_lt rows.y0 z.y1) (int_lt z.y1 rows.y1) e in
    let low = lt_is rows.y0 z.y1 p.0 in
    let high = lt_is z.y1 rows.y1 p.1 in
    record { begins = omega (arith, ints, legal, high); ends = low }

meets_reaching : (rows : RowRange) (z : Trapezoid) → rows.y0 <ℤ rows.y1 → z.y0 <ℤ z.y1 → reaches_top rows z ≡ true → Meets rows z
meets_reaching rows z some legal e =
    let p = both (int_lt z.y0 rows.y1) (int_le rows.y1 z.y1) e in
    let low = lt_is z.y0 rows.y1 p.0 in
    let high = le_is rows.y1 z.y1 p.1 in
    record { begins = low; ends = omega (arith, ints, some, high) }

-- some of a shot's rows
upper_shot : (z : Trapezoid) (a : ℤ) → IsShot z → z.y0 ≤ℤ a → a <ℤ z.y1 → IsShot (trapezoid a z.y1 z.left z.right)
upper_shot z a s low high =
    by_lt_z z.y0 a (λ lt. from_row_shot z a s lt high)
    (λ ge. (let same : z.y0 ≡ a = omega (arith, ints, low, ge) in subst (λ (y : ℤ). IsShot (trapezoid y z.y1 z.left z.right)) same s))

rows_shot : (z : Trapezoid) (a b : ℤ) → IsShot z → z.y0 ≤ℤ a → a <ℤ b → b ≤ℤ z.y1 → IsShot (trapezoid a b z.left z.right)
rows_shot z a b s low some high =
    let upper = upper_shot z a s low (omega (arith, ints, some, high)) in
    by_lt_z b z.y1 (λ lt. below_shot (trapezoid a z.y1 z.left z.right) b upper some lt)
    (λ ge. (let same : z.y1 ≡ b = omega (arith, ints, high, ge) in subst (λ (y : ℤ). IsShot (trapezoid a y z.left z.right)) same upper))

pub cut_shot : (rows : RowRange) (z : Trapezoid) → rows.y0 <ℤ rows.y1 → Meets rows z → IsShot z → IsShot (cut_to rows z)
cut_shot rows z some m s =
    let legal = s.legal.has_rows in
    rows_shot z (int_max z.y0 rows.y0) (int_min z.y1 rows.y1) s (omega (arith, ints, clamps))
    (omega (arith, ints, clamps, some, m.begins, m.ends, legal)) (omega (arith, ints, clamps))

-- its tiles in the rows
cut_in : (rows : RowRange) (z : Trapezoid) (t : Tile) → IsInTrapezoid (cut_to rows z) t → IsInTrapezoid z t
cut_in rows z t h = record {
  above_bottom = (let low = h.above_bottom in omega (arith, ints, clamps, low));
  below_top = (let high = h.below_top in omega (arith, ints, clamps, high));
  right_of_left = h.right_of_left;
  left_of_right = h.left_of_right;
}

in_cut : (rows : RowRange) (z : Trapezoid) (t : Tile) → IsInRows rows t → IsInTrapezoid z t → IsInTrapezoid (cut_to rows z) t
in_cut rows z t r h = record {
  above_bottom = (let low = h.above_bottom in let from = r.from in omega (arith, ints, clamps, low, from));
  below_top = (let high = h.below_top in let below = r.below in omega (arith, ints, clamps, high, below));
  right_of_left = h.right_of_left;
  left_of_right = h.left_of_right;
}

cut_rows : (rows : RowRange) (z : Trapezoid) (t : Tile) → IsInTrapezoid (cut_to rows z) t → IsInRows rows t
cut_rows rows z t h = record {
  from = (let low = h.above_bottom in omega (arith, ints, clamps, low));
  below = (let high = h.below_top in omega (arith, ints, clamps, high));
}

cut_has : (rows : RowRange) (z : Trapezoid) (t : Tile) → IsInRows rows t → trapezoid_has t (cut_to rows z) ≡ trapezoid_has t z
cut_has rows z t r = same_test (cut_to rows z) z t (cut_in rows z t) (in_cut rows z t r)

-- ---- how often a tile is in a list

abbrev cut_those : RowRange → (Trapezoid → Bool) → List Trapezoid → List Trapezoid
cut_those rows p traps = map (cut_to rows) (filter p traps)

none_by : (rows : RowRange) (p : Trapezoid → Bool) (z : Trapezoid) (traps : List Trapezoid) (t : Tile) (b : Bool) → p z ≡ b → (IsInRows rows t → ⊥)
    → count_in (cut_those rows p traps) t ≡ 0 → count_in (cut_those rows p (z ∷ traps)) t ≡ 0
none_by rows p z traps t true e out later =
    rw e (count_by-cons (trapezoid_has t) (cut_to rows z)
    (cut_those rows p traps) ∙ (rw (no_test (cut_to rows z) t (λ h. out (cut_rows rows z t h)), later) refl))
none_by rows p z traps t false e out later = rw e later

-- of no tile outside of the rows
none_outside : (rows : RowRange) (p : Trapezoid → Bool) (traps : List Trapezoid) (t : Tile) → (IsInRows rows t → ⊥) → count_in (cut_those rows p traps) t ≡ 0
none_outside rows p [] t out = refl
none_outside rows p (z ∷ traps) t out = none_by rows p z traps t _ refl out (none_outside rows p traps t out)

abbrev counted_both : RowRange → List Trapezoid → Tile → ℕ
counted_both rows traps t = count_in (cut_those rows (ends_in rows) traps) t + count_in (cut_those rows (reaches_top rows) traps) t

-- both tests can't hold, and where none does the trapezoid has no row among these
not_both : (rows : RowRange) (z : Trapezoid) → ends_in rows z ≡ true → reaches_top rows z ≡ true → ⊥
not_both rows z e f =
    let high = lt_is z.y1 rows.y1 (both (int_lt rows.y0 z.y1) (int_lt z.y1 rows.y1) e).1 in
    let over = le_is rows.y1 z.y1 (both (int_lt z.y0 rows.y1) (int_le rows.y1 z.y1) f).1 in
    omega (arith, ints, high, over)

ends_yes : (rows : RowRange) (z : Trapezoid) → rows.y0 <ℤ z.y1 → z.y1 <ℤ rows.y1 → ends_in rows z ≡ true
ends_yes rows z low high = rw (lt_yes rows.y0 z.y1 low, lt_yes z.y1 rows.y1 high) refl

reaches_yes : (rows : RowRange) (z : Trapezoid) → z.y0 <ℤ rows.y1 → rows.y1 ≤ℤ z.y1 → reaches_top rows z ≡ true
reaches_yes rows z low high = rw (lt_yes z.y0 rows.y1 low, le_yes rows.y1 z.y1 high) refl

not_there : (rows : RowRange) (z : Trapezoid) (t : Tile) → IsInRows rows t → ends_in rows z ≡ false → reaches_top rows z ≡ false → IsInTrapezoid z t → ⊥
not_there rows z t r e f h =
    let low = h.above_bottom in
    let high = h.below_top in
    let from = r.from in
    let below = r.below in
    by_lt_z z.y1 rows.y1
    (λ lt. (let yes = ends_yes rows z (omega (arith, ints, from, high)) lt in absurd cc))
    (λ ge. (let yes = reaches_yes rows z (omega (arith, ints, low, below)) ge in absurd cc))

both_by : (rows : RowRange) (z : Trapezoid) (traps : List Trapezoid) (t : Tile) (a b : Bool) → ends_in rows z ≡ a → reaches_top rows z ≡ b → IsInRows rows t
    → counted_both rows traps t ≡ count_in traps t → counted_both rows (z ∷ traps) t ≡ count_in (z ∷ traps) t
both_by rows z traps t true true e f r later = absurd (not_both rows z e f)
both_by rows z traps t true false e f r later =
    let first = count_by-cons (trapezoid_has t) (cut_to rows z) (cut_those rows (ends_in rows) traps) in
    let whole = count_by-cons (trapezoid_has t) z traps in
    let same = ap count_one (cut_has rows z t r) in
    rw (e, f) (omega (arith, first, whole, same, later))
both_by rows z traps t false true e f r later =
    let first = count_by-cons (trapezoid_has t) (cut_to rows z) (cut_those rows (reaches_top rows) traps) in
    let whole = count_by-cons (trapezoid_has t) z traps in
    let same = ap count_one (cut_has rows z t r) in
    rw (e, f) (omega (arith, first, whole, same, later))
both_by rows z traps t false false e f r later =
    let whole = count_by-cons (trapezoid_has t) z traps in
    let none = ap count_one (no_test z t (not_there rows z t r e f)) in
    rw (e, f) (omega (arith, whole, none, later))

-- of each tile in the rows as often as before
count_inside : (rows : RowRange) (traps : List Trapezoid) (t : Tile) → IsInRows rows t → counted_both rows traps t ≡ count_in traps t
count_inside rows [] t r = refl
count_inside rows (z ∷ traps) t r = both_by rows z traps t _ _ refl refl r (count_inside rows traps t r)

-- ---- what the parts come from

pub record IsCutOf (rows : RowRange) (traps : List Trapezoid) (z : Trapezoid) : Type 0 where
  pub from : Trapezoid
  pub member : Contains traps from
  pub meets : Meets rows from
  pub is : cut_to rows from ≡ z

cuts_of : (rows : RowRange) (p : Trapezoid → Bool) (traps : List Trapezoid)
    → ((z : Trapezoid) → Contains traps z → p z ≡ true → Meets rows z)
    → All (IsCutOf rows traps) (cut_those rows p traps)
cuts_of rows p traps meets = all_members (IsCutOf rows traps) (cut_those rows p traps) (λ z h.
    (let o = origin (cut_to rows) z (filter p traps) h in
    let m = passing p o.0 traps o.1 in
    record { from = o.0; member = m.0; meets = meets o.0 m.0 m.1; is = o.2 }))

-- ---- their order

min_first : (a b : ℤ) → a ≤ℤ b → int_min a b ≡ a
min_first a b h = omega (arith, ints, clamps, h)

min_second : (a b : ℤ) → b ≤ℤ a → int_min a b ≡ b
min_second a b h = omega (arith, ints, clamps, h)

ended_before : (rows : RowRange) (y z : Trapezoid) → y.y1 <ℤ rows.y1 → z.y1 <ℤ rows.y1 → StandsBefore y z → StandsBefore (cut_to rows y) (cut_to rows z)
ended_before rows y z a b h = rw (min_first y.y1 rows.y1 (omega (arith, ints, a)), min_first z.y1 rows.y1 (omega (arith, ints, b))) h

ends_below : (rows : RowRange) (z : Trapezoid) → ends_in rows z ≡ true → z.y1 <ℤ rows.y1
ends_below rows z e = lt_is z.y1 rows.y1 (both (int_lt rows.y0 z.y1) (int_lt z.y1 rows.y1) e).1

ended_order_by : (rows : RowRange) (z : Trapezoid) (traps : List Trapezoid) (b : Bool) → ends_in rows z ≡ b → All (StandsBefore z) traps
    → StandInOrder (cut_those rows (ends_in rows) traps) → StandInOrder (cut_those rows (ends_in rows) (z ∷ traps))
ended_order_by rows z traps true e before later = rw e (
  all_members (StandsBefore (cut_to rows z)) (cut_those rows (ends_in rows) traps) (λ y h.
      (let o = origin (cut_to rows) y (filter (ends_in rows) traps) h in
      let m = passing (ends_in rows) o.0 traps o.1 in
      subst (StandsBefore (cut_to rows z)) o.2
      (ended_before rows z o.0 (ends_below rows z e) (ends_below rows o.0 m.1)
      (All-contains (StandsBefore z) traps o.0 before m.0)))),
  later,
)
ended_order_by rows z traps false e before later = rw e later

ended_order : (rows : RowRange) (traps : List Trapezoid) → StandInOrder traps → StandInOrder (cut_those rows (ends_in rows) traps)
ended_order rows [] o = tt
ended_order rows (z ∷ traps) o = ended_order_by rows z traps _ refl o.0 (ended_order rows traps o.1)

-- those that reach the top, from left to right
module _ (top : ℤ) where
  -- a legal trapezoid with this top
  pub record EndsAt (z : Trapezoid) : Type 0 where
    pub legal : IsLegal z
    pub top_is : z.y1 ≡ top

  one_place : (y z : Trapezoid) (zs : List Trapezoid) → EndsAt y → EndsAt z → Contains zs z
      → ((t : Tile) → count_in (y ∷ zs) t ≤ 1) → top_place y ≡ top_place z → ⊥
  one_place y z zs ey ez member apart same =
      let j = y.y1 -ℤ pos 1 in
      let p = place y.left j in
      let rows_y = ey.legal.has_rows in
      let rows_z = ez.legal.has_rows in
      let top_y = ey.top_is in
      let top_z = ez.top_is in
      let tops : z.y1 -ℤ pos 1 ≡ j = omega (arith, ints, top_y, top_z) in
      let at : place z.left j ≡ p = ap (place z.left) (sym tops) ∙ sym same in
      let wide_y = legal_places y j ey.legal (omega (arith, ints, rows_y)) (omega (arith, ints)) in
      let wide_z = legal_places z j ez.legal (omega (arith, ints, rows_z, top_y, top_z)) (omega (arith, ints, top_y, top_z)) in
      let t = tile_with p j in
      let in_y = in_has t y (in_at y p j (omega (arith, ints, rows_y)) (omega (arith, ints)) (omega (arith, ints)) wide_y) in
      let in_z = in_has t z
      (in_at z p j (omega (arith, ints, rows_z, top_y, top_z)) (omega (arith, ints, top_y, top_z))
      (omega (arith, ints, at)) (omega (arith, ints, at, wide_z))) in
      let later = counted t z zs member in_z in
      let all = count_by-cons (trapezoid_has t) y zs in
      let one = ap count_one in_y in
      let most = apart t in
      omega (arith, later, all, one, most)

  left_of : (y z : Trapezoid) (zs : List Trapezoid) → EndsAt y → EndsAt z → Contains zs z
      → ((t : Tile) → count_in (y ∷ zs) t ≤ 1) → top_place y ≤ℤ top_place z → StandsBefore y z
  left_of y z zs ey ez member apart le =
      by_lt_z (top_place y) (top_place z) (λ lt. inr (ey.top_is ∙ sym ez.top_is, lt))
      (λ ge. (let same : top_place y ≡ top_place z = omega (arith, ints, le, ge) in absurd (one_place y z zs ey ez member apart same)))

  last_order : (zs : List Trapezoid) → All EndsAt zs → ((t : Tile) → count_in zs t ≤ 1) → PlacesAscend zs → StandInOrder zs
  last_order [] ends apart up = tt
  last_order (y ∷ zs) ends apart up = (
    all_members (StandsBefore y) zs
        (λ z member. left_of y z zs (All-head EndsAt y zs ends)
        (All-contains EndsAt zs z (All-tail EndsAt y zs ends) member) member apart
        (All-contains (λ (x : Trapezoid). top_place y ≤ℤ top_place x) zs z up.0 member)),
    last_order zs (All-tail EndsAt y zs ends) (λ t. (let most = apart t in let all = count_by-cons (trapezoid_has t) y zs in omega (arith, most, all))) up.1,
  )

-- ---- the whole list

-- those that end in the rows as they stand, and those that reach their top, sorted
pub record AreCut (rows : RowRange) (traps part : List Trapezoid) : Type 0 where
  pub last : List Trapezoid
  pub is : part ≡ cut_those rows (ends_in rows) traps ++ last
  pub permuted : IsPermutation (cut_those rows (reaches_top rows) traps) last
  pub ascend : PlacesAscend last

module _ (rows : RowRange) (traps part : List Trapezoid) (some : rows.y0 <ℤ rows.y1) (shots : All IsShot traps) (c : AreCut rows traps part) where
  has_rows : (z : Trapezoid) → Contains traps z → z.y0 <ℤ z.y1
  has_rows z h = (All-contains IsShot traps z shots h).legal.has_rows

  last_cuts : All (IsCutOf rows traps) c.last
  last_cuts = All-permutation (IsCutOf rows traps) (cut_those rows (reaches_top rows) traps) c.last c.permuted
      (cuts_of rows (reaches_top rows) traps (λ z h e. meets_reaching rows z some (has_rows z h) e))

  pub all_cuts : All (IsCutOf rows traps) part
  all_cuts = subst (All (IsCutOf rows traps)) (sym c.is)
      (All-append (IsCutOf rows traps) (cut_those rows (ends_in rows) traps) c.last
      (cuts_of rows (ends_in rows) traps (λ z h e. meets_ended rows z some (has_rows z h) e)) last_cuts)

  cut_is_shot : (z : Trapezoid) → IsCutOf rows traps z → IsShot z
  cut_is_shot z cut = subst IsShot cut.is (cut_shot rows cut.from some cut.meets (All-contains IsShot traps cut.from shots cut.member))

  pub are_shots : All IsShot part
  are_shots = All-weaker (IsCutOf rows traps) IsShot cut_is_shot part all_cuts

  count_parts : (t : Tile) → count_in part t ≡ counted_both rows traps t
  count_parts t =
      let sorted : count_in c.last t ≡ count_in (cut_those rows (reaches_top rows) traps) t = sum_by-IsPermutation _
      (cut_those rows (reaches_top rows) traps) c.last c.permuted in
      let sum : count_in (cut_those rows (ends_in rows) traps ++ c.last) t ≡ count_in
      (cut_those rows (ends_in rows) traps) t + count_in c.last t = sum_by-append _
      (cut_those rows (ends_in rows) traps) c.last in
      ap (λ (zs : List Trapezoid). count_in zs t) c.is ∙ sum ∙ (rw sorted refl)

  inside : (t : Tile) → IsInRows rows t → count_in part t ≡ count_in traps t
  inside t r = count_parts t ∙ count_inside rows traps t r

  outside : (t : Tile) → (IsInRows rows t → ⊥) → count_in part t ≡ 0
  outside t out = count_parts t ∙ (rw (none_outside rows (ends_in rows) traps t out, none_outside rows (reaches_top rows) traps t out) refl)

  apart_by : (t : Tile) → ((u : Tile) → count_in traps u ≤ 1) → count_in part t ≤ 1
  apart_by t apart =
      let most = apart t in
      by_lt_z t.j rows.y0
      (λ low. (let none = outside t (λ r. (let from = r.from in omega (arith, ints, low, from))) in omega (arith, none)))
      (λ from. by_lt_z t.j rows.y1
      (λ below. (let same = inside t (record { from = from; below = below }) in omega (arith, same, most)))
      (λ high. (let none = outside t (λ r. (let below = r.below in omega (arith, ints, high, below))) in omega (arith, none))))

  in_window : (z : Trapezoid) → IsCutOf rows traps z → IsInWindow rows z
  in_window z cut = subst (IsInWindow rows) cut.is (record { low = omega (arith, ints, clamps); high = omega (arith, ints, clamps) })

  -- beside a part is beside what it comes from
  beside : (w : Trapezoid) (t : Tile) → IsBeside (cut_to rows w) t → IsBeside w t
  beside w t h = record {
    above_bottom = (let low = h.above_bottom in omega (arith, ints, clamps, low));
    below_top = (let high = h.below_top in omega (arith, ints, clamps, high));
    beside = h.beside;
  }

  ends_free : (window : RowRange) → IsJoined window traps → (z : Trapezoid) (t : Tile) → Contains part z → IsBeside z t → count_in part t ≡ 0
  ends_free window joined z t member h =
      let cut = All-contains (IsCutOf rows traps) part z all_cuts member in
      let within = in_window z cut in
      let low = within.low in
      let high = within.high in
      let above = h.above_bottom in
      let under = h.below_top in
      inside t (record { from = omega (arith, ints, low, above); below = omega (arith, ints, high, under) })
      ∙ joined.ends_free cut.from t cut.member (beside cut.from t (subst (λ (u : Trapezoid). IsBeside u t) (sym cut.is) h))

  not_stacked : (window : RowRange) → IsJoined window traps → (y z : Trapezoid) → Contains part y → Contains part z
      → y.left ≡ z.left → y.right ≡ z.right → y.y1 ≡ z.y0 → ⊥
  not_stacked window joined y z my mz left right same =
      let a = All-contains (IsCutOf rows traps) part y all_cuts my in
      let b = All-contains (IsCutOf rows traps) part z all_cuts mz in
      let top : int_min a.from.y1 rows.y1 ≡ y.y1 = ap (λ (u : Trapezoid). u.y1) a.is in
      let bottom : int_max b.from.y0 rows.y0 ≡ z.y0 = ap (λ (u : Trapezoid). u.y0) b.is in
      let left_a : a.from.left ≡ y.left = ap (λ (u : Trapezoid). u.left) a.is in
      let left_b : b.from.left ≡ z.left = ap (λ (u : Trapezoid). u.left) b.is in
      let right_a : a.from.right ≡ y.right = ap (λ (u : Trapezoid). u.right) a.is in
      let right_b : b.from.right ≡ z.right = ap (λ (u : Trapezoid). u.right) b.is in
      let ends = a.meets.ends in
      let begins = b.meets.begins in
      joined.not_stacked a.from b.from a.member b.member (left_a ∙ left ∙ sym left_b) (right_a ∙ right ∙ sym right_b)
      (omega (arith, ints, clamps, top, bottom, same, ends, begins, some))

  -- those that reach the top end there
  last_ends : (z : Trapezoid) → Contains (cut_those rows (reaches_top rows) traps) z → EndsAt rows.y1 z
  last_ends z h =
      let o = origin (cut_to rows) z (filter (reaches_top rows) traps) h in
      let m = passing (reaches_top rows) o.0 traps o.1 in
      let over = le_is rows.y1 o.0.y1 (both (int_lt o.0.y0 rows.y1) (int_le rows.y1 o.0.y1) m.1).1 in
      let s = cut_shot rows o.0 some (meets_reaching rows o.0 some (has_rows o.0 m.0) m.1) (All-contains IsShot traps o.0 shots m.0) in
      subst (EndsAt rows.y1) o.2 (record { legal = s.legal; top_is = min_second o.0.y1 rows.y1 over })

  all_end : All (EndsAt rows.y1) c.last
  all_end = All-permutation (EndsAt rows.y1) (cut_those rows (reaches_top rows) traps) c.last c.permuted
      (all_members (EndsAt rows.y1) (cut_those rows (reaches_top rows) traps) last_ends)

  ended_lower : (y z : Trapezoid) → Contains (cut_those rows (ends_in rows) traps) y → Contains c.last z → StandsBefore y z
  ended_lower y z hy hz =
      let o = origin (cut_to rows) y (filter (ends_in rows) traps) hy in
      let m = passing (ends_in rows) o.0 traps o.1 in
      let low = ends_below rows o.0 m.1 in
      let is : int_min o.0.y1 rows.y1 ≡ y.y1 = ap (λ (u : Trapezoid). u.y1) o.2 in
      let top = (All-contains (EndsAt rows.y1) c.last z all_end hz).top_is in
      inl (omega (arith, ints, clamps, low, is, top))

  in_order : ((t : Tile) → count_in part t ≤ 1) → StandInOrder traps → StandInOrder part
  in_order apart order = subst StandInOrder (sym c.is)
      (order_append (cut_those rows (ends_in rows) traps) c.last (ended_order rows traps order)
      (last_order rows.y1 c.last all_end (λ t.
      (let most = apart t in
      let sum : count_in (cut_those rows (ends_in rows) traps ++ c.last) t ≡ count_in
      (cut_those rows (ends_in rows) traps) t + count_in c.last t = sum_by-append _
      (cut_those rows (ends_in rows) traps) c.last in
      let same : count_in part t ≡ count_in (cut_those rows (ends_in rows) traps ++ c.last) t = ap (λ (zs : List Trapezoid). count_in zs t) c.is in
      omega (arith, most, sum, same))) c.ascend)
      ended_lower)

  -- a joined list cut to some rows is the joined list there
  pub cut_joined : (window : RowRange) → IsJoined window traps → IsCutTo rows traps part
  cut_joined window joined = record {
    joined = record {
      legal = All-weaker IsShot IsLegal (λ z s. s.legal) part are_shots;
      in_window = All-weaker (IsCutOf rows traps) (IsInWindow rows) in_window part all_cuts;
      apart = λ t. apart_by t joined.apart;
      ends_free = ends_free window joined;
      not_stacked = not_stacked window joined;
      in_order = in_order (λ t. apart_by t joined.apart) joined.in_order;
    };
    inside = inside;
    outside = outside;
  }

-- ---- as the code has it

-- the row below a shot's top, at its left line
pub record TopRowWithin (l : Line) (j : ℤ) : Type 0 where
  pub bottom : IsWithinReach (x_on l j)
  pub top : IsWithinReach (x_on l (j +ℤ pos 1))
  pub row : IsWithinReach j
  pub next_row : IsWithinReach (j +ℤ pos 1)

pub top_within : (z : Trapezoid) (j : ℤ) → IsShot z → j ≡ z.y1 -ℤ pos 1 → TopRowWithin z.left j
top_within z j s e =
    let some = s.legal.has_rows in
    let last = upper_shot z j s (omega (arith, ints, some, e)) (omega (arith, ints, e)) in
    let up : z.y1 ≡ j +ℤ pos 1 = omega (arith, ints, e) in
    record {
      bottom = last.reach.bottom_left;
      top = subst (λ (y : ℤ). IsWithinReach (x_on z.left y)) up s.reach.top_left;
      row = last.reach.y0;
      next_row = subst IsWithinReach up s.reach.y1;
    }

pub cut_meets : (rows : RowRange) (z : Trapezoid) → rows.y0 <ℤ rows.y1 → IsShot z → (ends_in rows z ≡ true) ⊎ (reaches_top rows z ≡ true) → Meets rows z
cut_meets rows z some s (inl e) = meets_ended rows z some s.legal.has_rows e
cut_meets rows z some s (inr e) = meets_reaching rows z some s.legal.has_rows e

pub cut_shot_at : (rows : RowRange) (z : Trapezoid) (y0 y1 : ℤ) (left right : Line) → rows.y0 <ℤ rows.y1 → Meets rows z → IsShot z
    → y0 ≡ int_max z.y0 rows.y0 → y1 ≡ int_min z.y1 rows.y1 → left ≡ z.left → right ≡ z.right → IsShot (trapezoid y0 y1 left right)
cut_shot_at rows z y0 y1 left right some m s a b l r = rw (a, b, l, r) (cut_shot rows z some m s)

pub cut_is : (rows : RowRange) (traps ended reaching last slice part : List Trapezoid)
    → ended ≡ cut_those rows (ends_in rows) traps → reaching ≡ cut_those rows (reaches_top rows) traps
    → IsPermutation reaching last → PlacesAscend last → slice ≡ last → part ≡ ended ++ slice → AreCut rows traps part
cut_is rows traps ended reaching last slice part e r permuted ascend same is = record {
  last = last;
  is = is ∙ ap (λ (zs : List Trapezoid). zs ++ slice) e ∙ ap (λ (zs : List Trapezoid). cut_those rows (ends_in rows) traps ++ zs) same;
  permuted = subst (λ (zs : List Trapezoid). IsPermutation zs last) r permuted;
  ascend = ascend;
}
