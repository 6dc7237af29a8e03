-- One column further: what is settled left of it stays so, and what lies strictly inside it is settled.
use Rattle.std.proofs.Common.{◌≡◌, ℕ, suc, zero, ◌+◌, ◌<◌, ◌≤◌, ℤ, pos, ◌-ℤ◌, ◌≤ℤ◌, ◌<ℤ◌, arith, refl, sym, ap, ◌∙◌}
use Rattle.std.proofs.Common.{append_assoc, append-nil, List, [], ◌∷◌, ◌++◌}
use Rattle.std.proofs.lemmas.Int.{ints, by_lt_z}
use Rattle.std.proofs.lemmas.List.Sums.{sum_by-append}
use Rattle.std.proofs.lemmas.List.Elements.{All-append, All-weaker, All-contains, All-nil, All-push, Contains-append_left, Contains-push}
use Rattle.std.specs.List.{Contains}
use mathlib.Core.Logic.{◌⊎◌, inl, inr}
use Rattle.half_grid.specs.JoinedLists.{IsJoined, IsInWindow}
use Rattle.half_grid.specs.Trapezoids.{Trapezoid, IsLegal, CoversExactly, count_in}
use Rattle.half_grid.specs.Windows.{RowRange}
use Rattle.half_grid.specs.declared.plane.Line.{Line}
use Rattle.half_grid.specs.declared.plane.Tile.{Tile}
use Rattle.trap_join.specs.Maximal.{IsRunAt, IsMaximal}
use Rattle.trap_join.proofs.ForCallers.{member_maximal}
use Rattle.column_sweep.specs.ColumnLaws.{IsInColumn, PartIn, IsStrictlyInside}
use Rattle.column_sweep.specs.Sewing.{CoverTogether, HasTile, IsPiece, AreSewn, LeftOf, IsSettled, AreSweptTo, AreSorted, AreSortedBehind, AreSweptBehind}
use Rattle.column_sweep.proofs.InColumns.{one_of_whole}

-- ---- the same area, said in another way

module _ (area other : Tile → Type 0) (window : RowRange) (to : (t : Tile) → area t → other t) (back : (t : Tile) → other t → area t) where
  same_run : (l r : Line) (j : ℤ) → IsRunAt area l r j → IsRunAt other l r j
  same_run l r j run = record {
    has_tile = run.has_tile;
    inside = λ t e f g. to t (run.inside t e f g);
    left_end = λ t e f at. run.left_end t e f (back t at);
    right_end = λ t e f at. run.right_end t e f (back t at);
  }

module _ (area other : Tile → Type 0) (window : RowRange) (to : (t : Tile) → area t → other t) (back : (t : Tile) → other t → area t) where
  pub same_area : (z : Trapezoid) → IsMaximal area window z → IsMaximal other window z
  same_area z m = record {
    legal = m.legal;
    in_window = m.in_window;
    runs = λ j a b. same_run area other window to back z.left z.right j (m.runs j a b);
    top = λ lt run. m.top lt (same_run other area window back to z.left z.right z.y1 run);
    bottom = λ lt run. m.bottom lt (same_run other area window back to z.left z.right (z.y0 -ℤ pos 1) run);
  }

-- ---- counts

pub count_append : (xs ys : List Trapezoid) (t : Tile) → count_in (xs ++ ys) t ≡ count_in xs t + count_in ys t
count_append xs ys t = sum_by-append _ xs ys

-- the tile is in one of the list
abbrev pub Has : List Trapezoid → Tile → Type 0
Has traps t = 0 < count_in traps t

pub some_or_none : (n : ℕ) → (0 < n) ⊎ (0 < n → ⊥)
some_or_none zero = inr (λ h. omega (arith, h))
some_or_none (suc n) = inl (omega arith)

most_one : (n : ℕ) → n ≤ 1 → 0 < n → n ≡ 1
most_one n h k = omega (arith, h, k)

none_by : (n : ℕ) → (0 < n → ⊥) → n ≡ 0
none_by zero h = refl
none_by (suc n) h = absurd (h (omega arith))

-- a joined list covers what it has, and its members are maximal there
has_exactly : (window : RowRange) (traps : List Trapezoid) → IsJoined window traps → CoversExactly traps (Has traps)
has_exactly window traps joined = record {
  once = λ t h. most_one (count_in traps t) (joined.apart t) h;
  never = λ t h. none_by (count_in traps t) h;
}

pub joined_member : (window : RowRange) (traps : List Trapezoid) → IsJoined window traps → (z : Trapezoid) → Contains traps z → IsMaximal (Has traps) window z
joined_member window traps joined z h = member_maximal (Has traps) window traps (λ t. some_or_none (count_in traps t))
    (has_exactly window traps joined) joined z h

by_two : (n : ℕ) {P : Type 0} → (n ≤ 1 → P) → (2 ≤ n → P) → P
by_two zero a b = a (omega arith)
by_two (suc zero) a b = a (omega arith)
by_two (suc (suc n)) a b = b (omega arith)

pub once_at_most : (area : Tile → Type 0) (finals seams : List Trapezoid) → CoverTogether area finals seams
    → (t : Tile) → count_in finals t + count_in seams t ≤ 1
once_at_most area finals seams covers t =
    by_two (count_in finals t + count_in seams t) (λ h. h)
    (λ two. (let none = covers.never t (λ a. (let one = covers.once t a in absurd (omega (arith, two, one)))) in absurd (omega (arith, two, none))))

-- ---- one column further

module _ (area own : Tile → Type 0) (window : RowRange) (low from x : ℤ) (low_from : low ≤ℤ from) (from_x : from <ℤ x)
    (column : (t : Tile) → own t → IsInColumn from x t) (to_area : (t : Tile) → own t → area t) (to_own : (t : Tile) → IsInColumn from x t → area t → own t)
    (finals seams traps insides crossings : List Trapezoid) (before : AreSweptTo area window low from finals seams)
    (joined : IsJoined window traps) (covers : CoversExactly traps own) (sorted : AreSorted from x traps insides crossings) where
  -- how often both lists have a tile then
  total : (t : Tile) → count_in (finals ++ insides) t + count_in (seams ++ crossings) t ≡ (count_in finals t + count_in seams t) + count_in traps t
  total t =
      let a = count_append finals insides t in
      let b = count_append seams crossings t in
      let c = sorted.counts t in
      omega (arith, a, b, c)

  Now : Tile → Type 0
  Now t = HasTile (finals ++ insides) (seams ++ crossings) t

  -- the column's trapezoids have only tiles of the column
  traps_within : (t : Tile) → Has traps t → IsInColumn from x t
  traps_within t h = record {
    from_left = by_lt_z t.i from
        (λ lt. absurd (let none = covers.never t
        (λ o. (let c = (column t o).from_left in omega (arith, ints, c, lt))) in omega (arith, none, h))) (λ ge. ge);
    below_right = by_lt_z t.i x (λ lt. lt)
        (λ ge. absurd (let none = covers.never t
        (λ o. (let c = (column t o).below_right in omega (arith, ints, c, ge))) in omega (arith, none, h)));
  }

  none_old : (t : Tile) → from ≤ℤ t.i → count_in finals t + count_in seams t ≡ 0
  none_old t h = none_by (count_in finals t + count_in seams t) (λ k. (let w = (before.within t k).below_right in omega (arith, ints, w, h)))

  none_new : (t : Tile) → t.i <ℤ from → count_in traps t ≡ 0
  none_new t h = none_by (count_in traps t) (λ k. (let w = (traps_within t k).from_left in omega (arith, ints, w, h)))

  -- left of the column nothing changes, and in it there is just what it has
  old_part : (t : Tile) → HasTile finals seams t → PartIn low from Now t
  unfolding Now
  old_part t h = (before.within t h, (let n = total t in omega (arith, h, n)))

  part_old : (t : Tile) → PartIn low from Now t → HasTile finals seams t
  unfolding Now
  part_old t h = let n = total t in let none = none_new t h.0.below_right in let k = h.1 in omega (arith, n, none, k)

  new_part : (t : Tile) → Has traps t → PartIn from x Now t
  unfolding Now
  new_part t h = (traps_within t h, (let n = total t in omega (arith, h, n)))

  part_new : (t : Tile) → PartIn from x Now t → Has traps t
  unfolding Now
  part_new t h = let n = total t in let none = none_old t h.0.from_left in let k = h.1 in omega (arith, n, none, k)

  still_settled : (z : Trapezoid) → IsSettled (HasTile finals seams) window low from z → IsSettled Now window low x z
  still_settled z s = record {
    maximal = one_of_whole Now window low from z (same_area (HasTile finals seams) (PartIn low from Now) window old_part part_old z s.maximal) s.inside;
    inside = record {
      bottom_left = s.inside.bottom_left;
      top_left = s.inside.top_left;
      bottom_right = (let h = s.inside.bottom_right in omega (arith, ints, h, from_x));
      top_right = (let h = s.inside.top_right in omega (arith, ints, h, from_x));
    };
  }

  newly_settled : (z : Trapezoid) → Contains traps z × IsStrictlyInside from x z → IsSettled Now window low x z
  newly_settled z s = record {
    maximal = one_of_whole Now window from x z
        (same_area (Has traps) (PartIn from x Now) window new_part part_new z
        (joined_member window traps joined z s.0)) s.1;
    inside = record {
      bottom_left = (let h = s.1.bottom_left in omega (arith, ints, h, low_from));
      top_left = (let h = s.1.top_left in omega (arith, ints, h, low_from));
      bottom_right = s.1.bottom_right;
      top_right = s.1.top_right;
    };
  }

  piece : (z : Trapezoid) → Contains traps z → IsPiece window z
  piece z h = record { legal = All-contains IsLegal traps z joined.legal h; in_window = All-contains (IsInWindow window) traps z joined.in_window h }

  now_within : (t : Tile) → Now t → IsInColumn low x t
  unfolding Now
  now_within t h =
      by_lt_z t.i from
      (λ lt. (let n = total t in let none = none_new t lt in let w = before.within t (omega (arith, n, none, h)) in
      record { from_left = w.from_left; below_right = omega (arith, ints, lt, from_x) }))
      (λ ge. (let n = total t in let none = none_old t ge in let w = traps_within t (omega (arith, n, none, h)) in
      record { from_left = omega (arith, ints, ge, low_from); below_right = w.below_right }))

  now_once : (t : Tile) → LeftOf x area t → count_in (finals ++ insides) t + count_in (seams ++ crossings) t ≡ 1
  now_once t h =
      by_lt_z t.i from
      (λ lt. (let n = total t in let none = none_new t lt in let one = before.covers.once t (h.0, lt) in omega (arith, n, none, one)))
      (λ ge. (let n = total t in let none = none_old t ge in let one = covers.once t
      (to_own t (record { from_left = ge; below_right = h.1 }) h.0) in omega (arith, n, none, one)))

  now_never : (t : Tile) → (LeftOf x area t → ⊥) → count_in (finals ++ insides) t + count_in (seams ++ crossings) t ≡ 0
  now_never t h =
      let n = total t in
      let old = before.covers.never t (λ k. (let lt = k.1 in h (k.0, omega (arith, ints, lt, from_x)))) in
      let new = covers.never t (λ o. h (to_area t o, (column t o).below_right)) in
      omega (arith, n, old, new)

  pub column_swept : AreSweptTo area window low x (finals ++ insides) (seams ++ crossings)
  unfolding Now
  column_swept = record {
    settled = All-append (IsSettled Now window low x) finals insides
        (All-weaker (IsSettled (HasTile finals seams) window low from) (IsSettled Now window low x) still_settled finals before.settled)
        (All-weaker (λ z. Contains traps z × IsStrictlyInside from x z) (IsSettled Now window low x) newly_settled insides sorted.strictly_inside);
    pieces = All-append (IsPiece window) seams crossings before.pieces (All-weaker (Contains traps) (IsPiece window) piece crossings sorted.others);
    within = now_within;
    covers = record { once = now_once; never = now_never };
  }

-- when all of the area lies left of the line
pub all_sewn : (area : Tile → Type 0) (window : RowRange) (low x : ℤ) (finals seams : List Trapezoid)
    → AreSweptTo area window low x finals seams → AreSewn window finals seams
all_sewn area window low x finals seams h = record {
  maximal = All-weaker (IsSettled (HasTile finals seams) window low x) (IsMaximal (HasTile finals seams) window) (λ z s. s.maximal) finals h.settled;
  pieces = h.pieces;
  apart = once_at_most (LeftOf x area) finals seams h.covers;
}

pub all_covered : (area : Tile → Type 0) (window : RowRange) (low x : ℤ) (finals seams : List Trapezoid)
    → ((t : Tile) → area t → t.i <ℤ x) → AreSweptTo area window low x finals seams → CoverTogether area finals seams
all_covered area window low x finals seams left h = record {
  once = λ t a. h.covers.once t (a, left t a);
  never = λ t no. h.covers.never t (λ k. no k.0);
}

pub swept_none : (area : Tile → Type 0) (window : RowRange) (x : ℤ) → ((t : Tile) → t.i <ℤ x → area t → ⊥) → AreSweptTo area window x x [] []
swept_none area window x none = record {
  settled = All-nil (IsSettled (HasTile [] []) window x x);
  pieces = All-nil (IsPiece window);
  within = λ t h. absurd (omega (arith, h));
  covers = record { once = λ t h. absurd (none t h.1 h.0); never = λ t h. refl };
}

-- ---- the trapezoids of a column, one by one

-- a trapezoid of the column strictly inside it
abbrev pub IsOneInside : ℤ → ℤ → List Trapezoid → Trapezoid → Type 0
IsOneInside from x traps z = Contains traps z × IsStrictlyInside from x z

still_inside : (from x : ℤ) (traps : List Trapezoid) (w : Trapezoid) (z : Trapezoid) → IsOneInside from x traps z → IsOneInside from x (traps ++ w ∷ []) z
still_inside from x traps w z h = (Contains-append_left traps (w ∷ []) z h.0, h.1)

last_is_there : (traps : List Trapezoid) (w : Trapezoid) → Contains (traps ++ w ∷ []) w
last_is_there traps w = Contains-push traps w

pub sorted_none : (from x : ℤ) → AreSorted from x [] [] []
sorted_none from x = record { strictly_inside = All-nil (IsOneInside from x []); others = All-nil (Contains []); counts = λ t. refl }

pub sorted_inside : (from x : ℤ) (traps insides crossings : List Trapezoid) (w : Trapezoid)
    → AreSorted from x traps insides crossings → IsStrictlyInside from x w
    → AreSorted from x (traps ++ w ∷ []) (insides ++ w ∷ []) crossings
sorted_inside from x traps insides crossings w h inside = record {
  strictly_inside = All-push (IsOneInside from x (traps ++ w ∷ [])) insides w
      (All-weaker (IsOneInside from x traps) (IsOneInside from x (traps ++ w ∷ []))
      (still_inside from x traps w) insides h.strictly_inside) (last_is_there traps w, inside);
  others = All-weaker (Contains traps) (Contains (traps ++ w ∷ [])) (λ z k. Contains-append_left traps (w ∷ []) z k) crossings h.others;
  counts = λ t. (let before = h.counts t in let a = count_append insides (w ∷ []) t in let b = count_append traps (w ∷ []) t in omega (arith, before, a, b));
}

pub sorted_crossing : (from x : ℤ) (traps insides crossings : List Trapezoid) (w : Trapezoid) → AreSorted from x traps insides crossings
    → AreSorted from x (traps ++ w ∷ []) insides (crossings ++ w ∷ [])
sorted_crossing from x traps insides crossings w h = record {
  strictly_inside = All-weaker (IsOneInside from x traps) (IsOneInside from x (traps ++ w ∷ [])) (still_inside from x traps w) insides h.strictly_inside;
  others = All-push (Contains (traps ++ w ∷ [])) crossings w
      (All-weaker (Contains traps) (Contains (traps ++ w ∷ []))
      (λ z k. Contains-append_left traps (w ∷ []) z k) crossings h.others) (last_is_there traps w);
  counts = λ t. (let before = h.counts t in let a = count_append crossings (w ∷ []) t in let b = count_append traps (w ∷ []) t in omega (arith, before, a, b));
}

-- ---- and put after those of other columns

push_behind : (all front back : List Trapezoid) (w : Trapezoid) → all ≡ front ++ back → all ++ w ∷ [] ≡ front ++ (back ++ w ∷ [])
push_behind all front back w h = ap (λ (xs : List Trapezoid). xs ++ w ∷ []) h ∙ append_assoc front back (w ∷ [])

pub behind_none : (from x : ℤ) (finals seams : List Trapezoid) → AreSortedBehind from x [] finals seams finals seams
behind_none from x finals seams = record {
  insides = [];
  crossings = [];
  finals_are = sym (append-nil finals);
  seams_are = sym (append-nil seams);
  sorted = sorted_none from x;
}

pub behind_inside : (from x : ℤ) (traps finals seams all_finals all_seams : List Trapezoid) (w : Trapezoid)
    → AreSortedBehind from x traps finals seams all_finals all_seams → IsStrictlyInside from x w
    → AreSortedBehind from x (traps ++ w ∷ []) finals seams (all_finals ++ w ∷ []) all_seams
behind_inside from x traps finals seams all_finals all_seams w h inside = record {
  insides = h.insides ++ w ∷ [];
  crossings = h.crossings;
  finals_are = push_behind all_finals finals h.insides w h.finals_are;
  seams_are = h.seams_are;
  sorted = sorted_inside from x traps h.insides h.crossings w h.sorted inside;
}

pub behind_crossing : (from x : ℤ) (traps finals seams all_finals all_seams : List Trapezoid) (w : Trapezoid)
    → AreSortedBehind from x traps finals seams all_finals all_seams
    → AreSortedBehind from x (traps ++ w ∷ []) finals seams all_finals (all_seams ++ w ∷ [])
behind_crossing from x traps finals seams all_finals all_seams w h = record {
  insides = h.insides;
  crossings = h.crossings ++ w ∷ [];
  finals_are = h.finals_are;
  seams_are = push_behind all_seams seams h.crossings w h.seams_are;
  sorted = sorted_crossing from x traps h.insides h.crossings w h.sorted;
}

pub swept_as : (AreAll AreOthers : List Trapezoid → Type 0)
    → ((traps : List Trapezoid) → AreAll traps → AreOthers traps)
    → (from x : ℤ) (finals seams all_finals all_seams : List Trapezoid)
    → AreSweptBehind AreAll from x finals seams all_finals all_seams → AreSweptBehind AreOthers from x finals seams all_finals all_seams
swept_as AreAll AreOthers to from x finals seams all_finals all_seams h = record { traps = h.traps; all = to h.traps h.all; sorted = h.sorted }
