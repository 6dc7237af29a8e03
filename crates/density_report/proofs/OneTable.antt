-- An area has one table, and the entries of its lowest rows of windows begin it.
use Rattle.std.proofs.Common.{ℕ, ◌≤◌, ◌<◌, ◌≡◌, ◌⊎◌, inl, inr, ℤ, ◌≤ℤ◌, ◌<ℤ◌, get_or, drop, length, List, [], ◌∷◌, ◌++◌}
use Rattle.std.proofs.Common.{Option, None, Some, arith, refl, sym, ap, subst, ◌∙◌}
use Rattle.std.proofs.lemmas.Int.{ints, by_lt_z}
use Rattle.std.proofs.lemmas.List.{append-nil, length-append}
use Rattle.std.proofs.lemmas.List.Elements.{All-cons, All-head, All-tail, All-weaker}
use Rattle.std.proofs.lemmas.List.Sums.{sum_by-cons}
use Rattle.std.specs.List.{All}
use Rattle.half_grid.specs.declared.plane.Tile.{Tile}
use Rattle.density_map.specs.Windows.{IsWindowSize, IsTakenInWindow}
use Rattle.density_report.specs.declared.entries.Entry.{Entry}
use Rattle.density_report.specs.Tables.{Table, IsBefore, AreAscending, AreEntries, tiles_for, listed, IsMost, IsDensityTable}
use Rattle.density_report.specs.Rows.{IsBelow}
use Rattle.density_report.proofs.NumberLemmas.{one_number}
use Rattle.density_report.proofs.EntryLemmas.{for_own, none_later}
use Rattle.density_report.proofs.TableLemmas.{high_count, low_count}

-- ---- heads and tails

head_of : (a b : Entry) (r s : List Entry) → a ∷ r ≡ b ∷ s → a ≡ b
head_of a b r s e = ap (λ (l : List Entry). get_or l 0 a) e

tail_of : (a b : Entry) (r s : List Entry) → a ∷ r ≡ b ∷ s → r ≡ s
tail_of a b r s e = ap (λ (l : List Entry). drop 1 l) e

not_empty : (p : List Entry) (a : Entry) (r : List Entry) → [] ≡ p ++ a ∷ r → ⊥
not_empty [] a r e = cc
not_empty (x ∷ p) a r e = cc

All-later : (a : Entry) (q : List Entry) (b : Entry) (s : List Entry)
    → All (λ (x : Entry). x.tiles ≤ a.tiles) (q ++ b ∷ s) → All (λ (x : Entry). x.tiles ≤ a.tiles) (b ∷ s)
All-later a [] b s h = h
All-later a (x ∷ q) b s h = All-later a q b s (All-tail (λ (y : Entry). y.tiles ≤ a.tiles) x (q ++ b ∷ s) h)

same_table : (one other : Table) → one.entries ≡ other.entries → one.most ≡ other.most → one.triangles ≡ other.triangles → one ≡ other
same_table one other p q r =
    ap (λ (x : List Entry). let t : Table = record { entries = x; most = one.most; triangles = one.triangles } in t) p
    ∙ (ap (λ (x : Option Entry). let t : Table =
    record { entries = other.entries; most = x; triangles = one.triangles } in t) q ∙ ap
    (λ (x : ℕ). let t : Table = record { entries = other.entries; most = other.most; triangles = x } in t) r)

-- ---- entries in order

before_more : (a b c : Entry) → IsBefore a b → IsBefore b c → IsBefore a c
before_more a b c (inl p) (inl q) = inl (omega (arith, ints, p, q))
before_more a b c (inl p) (inr (e, q)) = inl (omega (arith, ints, p, e))
before_more a b c (inr (e, p)) (inl q) = inl (omega (arith, ints, e, q))
before_more a b c (inr (e, p)) (inr (f, q)) = inr (e ∙ f, omega (arith, ints, p, q))

before_others : (a b : Entry) (es : List Entry) → IsBefore a b → All (IsBefore b) es → All (IsBefore a) (b ∷ es)
before_others a b es p q = All-cons (IsBefore a) b es p (All-weaker (IsBefore b) (IsBefore a) (λ c r. before_more a b c p r) es q)

-- the same window, or one is before the other
by_order : (P : Type 0) (a b : Entry) → (IsBefore a b → P) → (IsBefore b a → P) → (a.row ≡ b.row → a.column ≡ b.column → P) → P
by_order P a b less more same =
    by_lt_z a.row b.row (λ p. less (inl p))
    (λ p. by_lt_z b.row a.row (λ q. more (inl q))
    (λ q. (
    let row : a.row ≡ b.row = omega (arith, ints, p, q) in
    by_lt_z a.column b.column (λ r. less (inr (row, r)))
    (λ r. by_lt_z b.column a.column (λ s. more (inr (sym row, s))) (λ s. same row (omega (arith, ints, r, s))))
    )))

-- for the window of the first entry its own number is listed
listed_first : (e : Entry) (es : List Entry) → AreAscending (e ∷ es) → listed e.column e.row (e ∷ es) ≡ e.tiles
listed_first e es ascending =
    let one = sum_by-cons (tiles_for e.column e.row) e es in
    let own = for_own e in
    let none = none_later e es ascending.0 in
    omega (arith, one, own, none)

same_entry : (a b : Entry) → a.row ≡ b.row → a.column ≡ b.column → a.tiles ≡ b.tiles → a ≡ b
same_entry a b p q r =
    ap (λ (x : ℤ). let e : Entry = record { column = x; row = a.row; tiles = a.tiles } in e) q
    ∙ (ap (λ (x : ℤ). let e : Entry = record { column = b.column; row = x; tiles = a.tiles } in e) p ∙ ap
    (λ (x : ℕ). let e : Entry = record { column = b.column; row = b.row; tiles = x } in e) r)

-- ---- entries that begin others

-- in the rows where something is listed the same is listed in both; with a row each one below it is such a row
pub record Agree (low : ℤ → Type 0) (xs ys : List Entry) : Type 0 where
  pub same : (i j : ℤ) → low j → listed i j xs ≡ listed i j ys
  pub each : (i j : ℤ) → low j ⊎ (listed i j xs ≡ 0)
  pub down : (i j : ℤ) → i ≤ℤ j → low j → low i

abbrev HaveTiles : List Entry → Type 0
HaveTiles es = All (λ (e : Entry). 0 < e.tiles) es

is_low_by : (low : ℤ → Type 0) (x : Entry) (xs : List Entry) → AreAscending (x ∷ xs) → 0 < x.tiles → low x.row
    ⊎ (listed x.column x.row (x ∷ xs) ≡ 0) → low x.row
is_low_by low x xs ascending tiles (inl h) = h
is_low_by low x xs ascending tiles (inr none) = absurd (let own = listed_first x xs ascending in omega (arith, none, own, tiles))

agree_rest : (low : ℤ → Type 0) (x : Entry) (xs ys : List Entry) → Agree low (x ∷ xs) (x ∷ ys) → Agree low xs ys
agree_rest low x xs ys agree = record {
  same = λ i j h. (
      let one = sum_by-cons (tiles_for i j) x xs in
      let other = sum_by-cons (tiles_for i j) x ys in
      let both = agree.same i j h in
      omega (arith, one, other, both)
      );
  each = λ i j. each_by i j (agree.each i j);
  down = agree.down;
}
  where
    each_by : (i j : ℤ) → low j ⊎ (listed i j (x ∷ xs) ≡ 0) → low j ⊎ (listed i j xs ≡ 0)
    each_by i j (inl h) = inl h
    each_by i j (inr none) = inr (let one = sum_by-cons (tiles_for i j) x xs in omega (arith, one, none))

not_after : (a b : Entry) → IsBefore a b → a.row ≤ℤ b.row
not_after a b (inl less) = omega (arith, ints, less)
not_after a b (inr (e, less)) = omega (arith, ints, e)

pub begins : (low : ℤ → Type 0) (xs ys : List Entry) → AreAscending xs → AreAscending ys → HaveTiles xs → HaveTiles ys
    → Agree low xs ys → (rest : List Entry) × (ys ≡ xs ++ rest)
begins low [] ys p q tiles other agree = (ys, refl)
begins low (x ∷ xs) [] p q tiles other agree =
    absurd (
    let some = All-head (λ (e : Entry). 0 < e.tiles) x xs tiles in
    let same = agree.same x.column x.row (is_low_by low x xs p some (agree.each x.column x.row)) in
    let own = listed_first x xs p in
    omega (arith, some, same, own)
    )
begins low (x ∷ xs) (y ∷ ys) p q tiles other agree =
    let some = All-head (λ (e : Entry). 0 < e.tiles) x xs tiles in
    let more = All-head (λ (e : Entry). 0 < e.tiles) y ys other in
    let here = is_low_by low x xs p some (agree.each x.column x.row) in
    let same = agree.same x.column x.row here in
    let own = listed_first x xs p in
    by_order ((rest : List Entry) × (y ∷ ys ≡ (x ∷ xs) ++ rest)) x y
    (λ less. absurd (let none = none_later x (y ∷ ys) (before_others x y ys less q.0) in omega (arith, none, same, own, some)))
    (λ less. absurd (
    let none = none_later y (x ∷ xs) (before_others y x xs less p.0) in
    let both = agree.same y.column y.row (agree.down y.row x.row (not_after y x less) here) in
    let first = listed_first y ys q in
    omega (arith, none, both, first, more)
    ))
    (λ r c. (
    let there : listed x.column x.row (y ∷ ys) ≡ y.tiles =
    subst (λ (i : ℤ). listed i x.row (y ∷ ys) ≡ y.tiles) (sym c) (subst (λ (j : ℤ). listed y.column j (y ∷ ys) ≡ y.tiles) (sym r) (listed_first y ys q)) in
    let equal : x ≡ y = same_entry x y r c (omega (arith, same, own, there)) in
    let rest = begins low xs ys p.1 q.1 (All-tail (λ (e : Entry). 0 < e.tiles) x xs tiles) (All-tail (λ (e : Entry). 0 < e.tiles) y ys other)
    (agree_rest low x xs ys (subst (λ (e : Entry). Agree low (x ∷ xs) (e ∷ ys)) (sym equal) agree)) in
    (rest.0, ap (λ (e : Entry). e ∷ ys) (sym equal) ∙ ap (λ (l : List Entry). x ∷ l) rest.1)
    ))

-- ---- an area's entries

-- those of the rows of windows below one begin those of the area
pub entries_begin : (area : Tile → Type 0) (size row : ℤ) (xs ys : List Entry) → IsWindowSize size
    → AreEntries (IsBelow area size row) size xs → AreEntries area size ys → (rest : List Entry) × (ys ≡ xs ++ rest)
entries_begin area size row xs ys h p q =
    begins (λ j. j <ℤ row) xs ys p.ascending q.ascending p.above_zero q.above_zero (record {
      same = λ i j less. one_number (IsTakenInWindow area size i j) (listed i j xs) (listed i j ys)
          (low_count area size row i j (listed i j xs) h less (p.counts i j)) (q.counts i j);
      each = λ i j. by_lt_z j row (λ less. inl less)
          (λ more. inr (one_number (IsTakenInWindow (IsBelow area size row) size i j) (listed i j xs) 0 (p.counts i j)
          (high_count area size row i j h more)));
      down = λ i j up low. omega (arith, ints, up, low);
    })

empty : (l : List Entry) → length l ≡ 0 → l ≡ []
empty [] e = refl
empty (x ∷ l) e = absurd (omega (arith, e))

-- an area has one list of entries
pub one_list : (area : Tile → Type 0) (size : ℤ) (xs ys : List Entry) → AreEntries area size xs → AreEntries area size ys → xs ≡ ys
one_list area size xs ys p q =
    let agree = λ (i : ℤ). λ (j : ℤ). one_number (IsTakenInWindow area size i j) (listed i j xs) (listed i j ys) (p.counts i j) (q.counts i j) in
    let one = begins (λ j. Unit {0}) xs ys p.ascending q.ascending p.above_zero q.above_zero
    (record { same = λ i j h. agree i j; each = λ i j. inl tt; down = λ i j up h. tt }) in
    let other = begins (λ j. Unit {0}) ys xs q.ascending p.ascending q.above_zero p.above_zero
    (record { same = λ i j h. sym (agree i j); each = λ i j. inl tt; down = λ i j up h. tt }) in
    let length_one = ap (λ (l : List Entry). length l) one.1 in
    let length_other = ap (λ (l : List Entry). length l) other.1 in
    let sum_one = length-append xs one.0 in
    let sum_other = length-append ys other.0 in
    let none = empty one.0 (omega (arith, length_one, length_other, sum_one, sum_other)) in
    sym (one.1 ∙ ap (λ (l : List Entry). xs ++ l) none ∙ append-nil xs)

-- ---- the first that has the most

same_first : (a b : Entry) (p q r s : List Entry) → p ++ a ∷ r ≡ q ++ b ∷ s → All (λ (e : Entry). e.tiles < a.tiles) p
    → All (λ (e : Entry). e.tiles ≤ a.tiles) r
    → All (λ (e : Entry). e.tiles < b.tiles) q → All (λ (e : Entry). e.tiles ≤ b.tiles) s → a ≡ b
same_first a b [] [] r s e pa ra qb sb = head_of a b r s e
same_first a b [] (y ∷ q) r s e pa ra qb sb =
    absurd (
    let first = head_of a y r (q ++ b ∷ s) e in
    let rest = tail_of a y r (q ++ b ∷ s) e in
    let few = All-head (λ (x : Entry). x.tiles ≤ a.tiles) b s (All-later a q b s (subst (λ l. All (λ (x : Entry). x.tiles ≤ a.tiles) l) rest ra)) in
    let less = All-head (λ (x : Entry). x.tiles < b.tiles) y q qb in
    let same = ap (λ (x : Entry). x.tiles) first in
    omega (arith, few, less, same)
    )
same_first a b (x ∷ p) [] r s e pa ra qb sb =
    absurd (
    let first = head_of x b (p ++ a ∷ r) s e in
    let rest = tail_of x b (p ++ a ∷ r) s e in
    let few = All-head (λ (y : Entry). y.tiles ≤ b.tiles) a r (All-later b p a r (subst (λ l. All (λ (y : Entry). y.tiles ≤ b.tiles) l) (sym rest) sb)) in
    let less = All-head (λ (y : Entry). y.tiles < a.tiles) x p pa in
    let same = ap (λ (y : Entry). y.tiles) first in
    omega (arith, few, less, same)
    )
same_first a b (x ∷ p) (y ∷ q) r s e pa ra qb sb =
    same_first a b p q r s (tail_of x y (p ++ a ∷ r) (q ++ b ∷ s) e)
    (All-tail (λ (z : Entry). z.tiles < a.tiles) x p pa) ra (All-tail (λ (z : Entry). z.tiles < b.tiles) y q qb) sb

same_most : (entries : List Entry) (one other : Option Entry) → IsMost entries one → IsMost entries other → one ≡ other
same_most entries None None p q = refl
same_most entries None (Some b) p q = absurd (not_empty q.before b q.after (sym p ∙ q.here))
same_most entries (Some a) None p q = absurd (not_empty p.before a p.after (sym q ∙ p.here))
same_most entries (Some a) (Some b) p q = ap Some
    (same_first a b p.before q.before p.after q.after (sym p.here ∙ q.here) p.less p.no_greater q.less q.no_greater)

-- an area has one table
pub one_table : (area : Tile → Type 0) (size : ℤ) (one other : Table) → IsDensityTable area size one → IsDensityTable area size other → one ≡ other
one_table area size one other p q =
    let entries = one_list area size one.entries other.entries p.entries q.entries in
    let most = same_most other.entries one.most other.most (subst (λ (l : List Entry). IsMost l one.most) entries p.most) q.most in
    let triangles = one_number area one.triangles other.triangles p.triangles q.triangles in
    same_table one other entries most triangles
