-- Shots on their way through windows: how often a tile is in those that meet a window and in those that come later.
use Rattle.std.proofs.Common.{◌≡◌, ℤ, ◌+◌, ◌≤ℤ◌, ◌<ℤ◌, Bool, true, false, refl, sym, subst, ◌∙◌, List, [], ◌∷◌, ◌++◌}
use Rattle.std.proofs.Common.{All, length, arith, filter, int_lt, append_assoc}
use Rattle.std.proofs.lemmas.Int.{ints}
use Rattle.std.proofs.lemmas.List.Sums.{sum_by-append}
use Rattle.std.proofs.lemmas.List.Elements.{All-head, All-tail, All-nil}
use Rattle.half_grid.specs.Trapezoids.{Trapezoid, count_in, trapezoid_has}
use Rattle.half_grid.specs.Windows.{RowRange}
use Rattle.half_grid.specs.declared.plane.Tile.{Tile}
use Rattle.half_grid.proofs.ForCallers.{count_by-cons, has_in}
use Rattle.shot_checker.specs.Verdicts.{IsInRows}
use Rattle.file_check.specs.Fronts.{BottomsAscend, ends_above, IsFrontAt, IsTaken}

pub count_append : (xs ys : List Trapezoid) (t : Tile) → count_in (xs ++ ys) t ≡ count_in xs t + count_in ys t
count_append xs ys t = sum_by-append _ xs ys

not_above : (z : Trapezoid) (t : Tile) (b : Bool) → trapezoid_has t z ≡ b → (t.j <ℤ z.y0 → b ≡ false)
not_above z t true e lt = let inside = has_in t z e in let from = inside.above_bottom in absurd (omega (arith, ints, from, lt))
not_above z t false e lt = refl

not_below : (window : RowRange) (z : Trapezoid) (t : Tile) (b : Bool) → trapezoid_has t z ≡ b → window.y0 ≤ℤ t.j → ends_above window z ≡ false → b ≡ false
not_below window z t true e le ended =
    let inside = has_in t z e in
    let below = inside.below_top in
    let over : int_lt window.y0 z.y1 ≡ true = grind (arith, ints, le, below) in
    cc
not_below window z t false e le ended = refl

-- those that end at the window's bottom or below have none of its tiles
count_above_by : (b : Bool) (window : RowRange) (z : Trapezoid) (zs : List Trapezoid) (t : Tile) → window.y0 ≤ℤ t.j → ends_above window z ≡ b
    → count_in (filter (ends_above window) zs) t ≡ count_in zs t → count_in (filter (ends_above window) (z ∷ zs)) t ≡ count_in (z ∷ zs) t
count_above_by true window z zs t le e later =
    rw e (count_by-cons (trapezoid_has t) z (filter (ends_above window) zs) ∙ (rw later (sym (count_by-cons (trapezoid_has t) z zs))))
count_above_by false window z zs t le e later =
    rw e (later ∙ sym (count_by-cons (trapezoid_has t) z zs ∙ (rw (not_below window z t _ refl le e) (omega arith))))

pub count_above : (window : RowRange) (zs : List Trapezoid) (t : Tile) → window.y0 ≤ℤ t.j → count_in (filter (ends_above window) zs) t ≡ count_in zs t
count_above window [] t le = refl
count_above window (z ∷ zs) t le = count_above_by _ window z zs t le refl (count_above window zs t le)

-- those that begin at a Y or above have none of the tiles below it
pub none_before : (y : ℤ) (zs : List Trapezoid) (t : Tile) → All (λ z. y ≤ℤ z.y0) zs → t.j <ℤ y → count_in zs t ≡ 0
none_before y [] t h lt = refl
none_before y (z ∷ zs) t h lt =
    let here = All-head (λ (x : Trapezoid). y ≤ℤ x.y0) z zs h in
    let later = none_before y zs t (All-tail (λ (x : Trapezoid). y ≤ℤ x.y0) z zs h) lt in
    count_by-cons (trapezoid_has t) z zs ∙ (rw (not_above z t _ refl (omega (arith, ints, here, lt)), later) refl)

-- ---- taking those in that begin below the window's top

-- so far these were taken
pub record TakenSoFar (before now later left : List Trapezoid) : Type 0 where
  pub front : List Trapezoid
  pub items : now ≡ before ++ front
  pub counts : (t : Tile) → count_in front t + count_in left t ≡ count_in later t
  pub ascend : BottomsAscend left

pub one_taken : (before now after later left rest : List Trapezoid) (z : Trapezoid) → TakenSoFar before now later left
    → left ≡ z ∷ rest → after ≡ now ++ z ∷ [] → TakenSoFar before after later rest
one_taken before now after later left rest z h is pushed =
    let up : BottomsAscend (z ∷ rest) = subst BottomsAscend is h.ascend in
    record {
      front = h.front ++ z ∷ [];
      items = pushed ∙ (rw h.items (append_assoc before h.front (z ∷ [])));
      counts = λ t. (let all = rw is at (h.counts t) in
          let pair = count_append h.front (z ∷ []) t in
          let one = count_by-cons (trapezoid_has t) z [] in
          let first = count_by-cons (trapezoid_has t) z rest in
          let none : count_in [] t ≡ 0 = refl in
          omega (arith, all, pair, one, first, none));
      ascend = up.1;
    }

abbrev pub AreTaken : RowRange → List Trapezoid → List Trapezoid → List Trapezoid → List Trapezoid → Type 0
AreTaken window before now later rest = (front : List Trapezoid) × (now ≡ before ++ front) × IsTaken window later front rest

none_left : (y : ℤ) (left : List Trapezoid) → length left ≡ 0 → All (λ z. y ≤ℤ z.y0) left
none_left y [] h = All-nil (λ z. y ≤ℤ z.y0)
none_left y (z ∷ left) h = absurd (omega (arith, h))

-- ---- going on to a window

module _ (shots meeting kept later now rest : List Trapezoid) (window : RowRange) (at : IsFrontAt shots window.y0 meeting later)
    (kept_are : kept ≡ [] ++ filter (ends_above window) meeting) (taken : AreTaken window kept now later rest) where
  all_counts : (t : Tile) → window.y0 ≤ℤ t.j → count_in now t + count_in rest t ≡ count_in shots t
  all_counts t le =
      let own = at.counts t le in
      let kept_count : count_in kept t ≡ count_in meeting t = rw kept_are (count_above window meeting t le) in
      let parts : count_in now t ≡ count_in kept t + count_in taken.0 t = rw taken.1 (count_append kept taken.0 t) in
      let moved = taken.2.counts t in
      omega (arith, own, kept_count, parts, moved)

  pub gone_on : window.y0 ≤ℤ window.y1 → IsFrontAt shots window.y1 now rest
  gone_on rows = record { ascend = taken.2.ascend; counts = λ t le. all_counts t (omega (arith, ints, rows, le)) }

  pub met_counts : (t : Tile) → IsInRows window t → count_in now t ≡ count_in shots t
  met_counts t inside =
      let all = all_counts t inside.from in
      let none = none_before window.y1 rest t taken.2.above inside.below in
      omega (arith, all, none)

not_under : (z : Trapezoid) (t : Tile) (b : Bool) → trapezoid_has t z ≡ b → (z.y1 ≤ℤ t.j → b ≡ false)
not_under z t true e le = let inside = has_in t z e in let below = inside.below_top in absurd (omega (arith, ints, below, le))
not_under z t false e le = refl

-- those that end at a Y or below have none of the tiles above it
pub none_beyond : (y : ℤ) (zs : List Trapezoid) (t : Tile) → All (λ z. z.y1 ≤ℤ y) zs → y ≤ℤ t.j → count_in zs t ≡ 0
none_beyond y [] t h le = refl
none_beyond y (z ∷ zs) t h le =
    let here = All-head (λ (x : Trapezoid). x.y1 ≤ℤ y) z zs h in
    let later = none_beyond y zs t (All-tail (λ (x : Trapezoid). x.y1 ≤ℤ y) z zs h) le in
    count_by-cons (trapezoid_has t) z zs ∙ (rw (not_under z t _ refl (omega (arith, ints, here, le)), later) refl)
