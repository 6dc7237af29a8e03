-- Lists of boxes by pair.
use Rattle.std.proofs.Common.{◌≡◌, ◌⊎◌, ℕ, zero, suc, ◌+◌, ◌<◌, ◌≤◌, nat_eq, nat_lt, ◌&&◌, Bool, true, false}
use Rattle.std.proofs.Common.{if◌then◌else◌, List, [], ◌∷◌, ◌++◌, Option, Some, None, length, take, insert, set, get_or}
use Rattle.std.proofs.Common.{slice_get, refl, sym, ap, subst, ◌∙◌, inl, inr, arith, true≢false}
use Rattle.std.specs.Option.{option_map}
use Rattle.std.proofs.lemmas.Bool.{cases_lt}
use Rattle.std.proofs.lemmas.Bool.Decides.{nat_tests}
use Rattle.std.proofs.lemmas.List.{take_more}
use Rattle.std.proofs.lemmas.Option.{none-some, same_Some, slice_get-get_or}
use Rattle.half_grid.specs.declared.plane.Point.{Point}
use Rattle.half_grid.specs.declared.extent.Frame.{Frame}
use Rattle.layout_model.specs.declared.pair.Pair.{Pair}
use Rattle.cell_tree.specs.Boxes.{IsLeastBox, IsHull, joined_box}
use Rattle.layout_model.specs.Pairs.{same_pair}
use Rattle.cell_tree.specs.HullTables.{is_before, hull_in, IsBeforeAll, AreInOrder, wider, widest, widened_list, whole_from}
use Rattle.cell_tree.specs.declared.hulls.PairHull.{PairHull}
use Rattle.cell_tree.proofs.BoxLemmas.{same_least, joined_least}

-- ---- pairs

pub pair_true : (a b : Pair) → same_pair a b ≡ true → a ≡ b
pair_true a b e = by (nat_eq a.layer b.layer) (nat_eq a.datatype b.datatype) refl refl e
  where
    by : (s t : Bool) → nat_eq a.layer b.layer ≡ s → nat_eq a.datatype b.datatype ≡ t → (s && t) ≡ true → a ≡ b
    by true true e f h = let l : a.layer ≡ b.layer = grind (arith, nat_tests) in let d : a.datatype ≡ b.datatype =
        grind (arith, nat_tests) in λ i. record { layer = l i; datatype = d i }
    by true false e f h = absurd (true≢false (sym h))
    by false t e f h = absurd (true≢false (sym h))

nat_same : (n : ℕ) → nat_eq n n ≡ true
nat_same n = grind (arith, nat_tests)

pub pair_same : (a : Pair) → same_pair a a ≡ true
pair_same a = ap (λ s. s && nat_eq a.datatype a.datatype) (nat_same a.layer) ∙ nat_same a.datatype

-- whether two pairs are one
pub pairs : (a b : Pair) → (a ≡ b) ⊎ (same_pair a b ≡ false)
pairs a b = by (same_pair a b) refl
  where
    by : (t : Bool) → same_pair a b ≡ t → (a ≡ b) ⊎ (same_pair a b ≡ false)
    by true e = inl (pair_true a b e)
    by false e = inr e

pub pair_turned : (a b : Pair) → same_pair a b ≡ false → same_pair b a ≡ false
pair_turned a b e = by (same_pair b a) refl
  where
    by : (t : Bool) → same_pair b a ≡ t → same_pair b a ≡ false
    by true f = absurd (true≢false (sym (pair_same a) ∙ ap (λ c. same_pair a c) (sym (pair_true b a f)) ∙ e))
    by false f = f

-- ---- look-ups

head_same : (here : PairHull) (hulls : List PairHull) (q : Pair) → same_pair here.pair q ≡ true → hull_in (here ∷ hulls) q ≡ Some here.hull
head_same here hulls q e = ap (λ t. if t then Some here.hull else hull_in hulls q) e

head_other : (here : PairHull) (hulls : List PairHull) (q : Pair) → same_pair here.pair q ≡ false → hull_in (here ∷ hulls) q ≡ hull_in hulls q
head_other here hulls q e = ap (λ t. if t then Some here.hull else hull_in hulls q) e

-- ---- the order of pairs

abbrev pub Before : Pair → Pair → Type 0
Before a b = (a.layer < b.layer) ⊎ ((a.layer ≡ b.layer) × (a.datatype < b.datatype))

-- what the test of two pairs comes from
abbrev chosen : Bool → Bool → Bool → Bool
chosen s t u = if s then true else if t then false else u

pub before_true : (a b : Pair) → is_before a b ≡ true → Before a b
before_true a b e = by (nat_lt a.layer b.layer) (nat_lt b.layer a.layer) refl refl e
  where
    by : (s t : Bool) → nat_lt a.layer b.layer ≡ s → nat_lt b.layer a.layer ≡ t → chosen s t (nat_lt a.datatype b.datatype) ≡ true → Before a b
    by true t f g h = inl (grind (arith, nat_tests))
    by false true f g h = absurd (true≢false (sym h))
    by false false f g h = let e : a.layer ≡ b.layer = grind (arith, nat_tests) in inr (e, grind (arith, nat_tests))

pub is_true : (a b : Pair) → Before a b → is_before a b ≡ true
is_true a b h = by (nat_lt a.layer b.layer) (nat_lt b.layer a.layer) refl refl
  where
    last : (s t u : Bool) → nat_lt a.layer b.layer ≡ s → nat_lt b.layer a.layer ≡ t → nat_lt a.datatype b.datatype ≡ u → Before a b → chosen s t u ≡ true
    last true t u f g e (inl l) = refl
    last true t u f g e (inr r) = refl
    last false t u f g e (inl l) = absurd (grind (arith, nat_tests))
    last false true u f g e (inr r) = absurd (let same = r.0 in grind (arith, nat_tests))
    last false false true f g e (inr r) = refl
    last false false false f g e (inr r) = absurd (let less = r.1 in grind (arith, nat_tests))

    by : (s t : Bool) → nat_lt a.layer b.layer ≡ s → nat_lt b.layer a.layer ≡ t → chosen s t (nat_lt a.datatype b.datatype) ≡ true
    by s t f g = last s t (nat_lt a.datatype b.datatype) f g refl h

abbrev Order : Pair → Pair → Type 0
Order a b = Before a b ⊎ (a ≡ b) ⊎ Before b a

order : (a b : Pair) → Order a b
order a b = elim (cases_lt a.layer b.layer) [
  | inl l ↦ inl (inl l)
  | inr nl ↦ elim (cases_lt b.layer a.layer) [
    | inl g ↦ inr (inr (inl g))
    | inr ng ↦ let layers : a.layer ≡ b.layer = omega arith in elim (cases_lt a.datatype b.datatype) [
      | inl l ↦ inl (inr (layers, l))
      | inr nd ↦ elim (cases_lt b.datatype a.datatype) [
        | inl g ↦ inr (inr (inr (sym layers, g)))
        | inr isnt ↦ let types : a.datatype ≡ b.datatype = omega arith in inr (inl (λ i. record { layer = layers i; datatype = types i }))
      ]
    ]
  ]
]

not_both : (a b : Pair) → Before a b → Before b a → ⊥
not_both a b (inl l) (inl g) = omega arith
not_both a b (inl l) (inr g) = let e = g.0 in omega arith
not_both a b (inr l) (inl g) = let e = l.0 in omega arith
not_both a b (inr l) (inr g) = let x = l.1 in let y = g.1 in omega arith

not_self : (a : Pair) → Before a a → ⊥
not_self a h = not_both a a h h

through : (a b c : Pair) → Before a b → Before b c → Before a c
through a b c (inl l) (inl g) = inl (omega arith)
through a b c (inl l) (inr g) = let e = g.0 in inl (omega arith)
through a b c (inr l) (inl g) = let e = l.0 in inl (omega arith)
through a b c (inr l) (inr g) = let x = l.1 in let y = g.1 in inr (l.0 ∙ g.0, omega arith)

is_false : (a b : Pair) → (Before a b → ⊥) → is_before a b ≡ false
is_false a b isnt = by (is_before a b) refl
  where
    by : (t : Bool) → is_before a b ≡ t → is_before a b ≡ false
    by true e = absurd (isnt (before_true a b e))
    by false e = e

pub before_through : (a b c : Pair) → is_before a b ≡ true → is_before b c ≡ true → is_before a c ≡ true
before_through a b c f g = is_true a c (through a b c (before_true a b f) (before_true b c g))

-- what comes before another is another
pub before_other : (a b : Pair) → is_before a b ≡ true → same_pair a b ≡ false
before_other a b e = elim (pairs a b) [
  | inl same ↦ absurd (not_self b (subst (λ p. Before p b) same (before_true a b e)))
  | inr other ↦ other
]

-- the pair of an entry comes before, is the pair, or comes after
abbrev Stand : PairHull → Pair → Type 0
Stand here pair = (is_before here.pair pair ≡ true)
    ⊎ ((is_before here.pair pair ≡ false) × (same_pair here.pair pair ≡ true))
    ⊎ ((is_before here.pair pair ≡ false) × (same_pair here.pair pair ≡ false) × (is_before pair here.pair ≡ true))

stand : (here : PairHull) (pair : Pair) → Stand here pair
stand here pair = elim (order here.pair pair) [
  | inl b ↦ inl (is_true here.pair pair b)
  | inr rest ↦ elim rest [
    | inl same ↦ inr (inl (
      subst (λ p. is_before here.pair p ≡ false) same (is_false here.pair here.pair (not_self here.pair)),
      subst
          (λ p. same_pair here.pair p ≡ true) same (pair_same here.pair),
    ))
    | inr g ↦ let behind = is_true pair here.pair g in
        inr (inr (is_false here.pair pair (λ b. not_both here.pair pair b g), pair_turned pair here.pair (before_other pair here.pair behind), behind))
  ]
]

-- neither before nor the pair itself: after
pub behind_of : (here : PairHull) (pair : Pair) → is_before here.pair pair ≡ false → same_pair here.pair pair ≡ false → is_before pair here.pair ≡ true
behind_of here pair isnt other = elim (stand here pair) [
  | inl b ↦ absurd (true≢false (sym b ∙ isnt))
  | inr rest ↦ elim rest [ inl same ↦ absurd (true≢false (sym same.1 ∙ other)) | inr behind ↦ behind.2 ]
]

-- ---- lists in order

pub before_more : (a b : Pair) (hulls : List PairHull) → is_before a b ≡ true → IsBeforeAll b hulls → IsBeforeAll a hulls
before_more a b [] e all = tt
before_more a b (here ∷ hulls) e all = (before_through a b here.pair e all.0, before_more a b hulls e all.1)

pub before_none : (pair : Pair) (hulls : List PairHull) → IsBeforeAll pair hulls → hull_in hulls pair ≡ None
before_none pair [] all = refl
before_none pair (here ∷ hulls) all = head_other here hulls pair (pair_turned pair here.pair (before_other pair here.pair all.0)) ∙ before_none pair hulls all.1

before_at : (pair : Pair) (hulls : List PairHull) (k : ℕ) (here : PairHull) → IsBeforeAll pair hulls
    → slice_get hulls k ≡ Some here → is_before pair here.pair ≡ true
before_at pair [] k here all at = absurd (none-some here at)
before_at pair (first ∷ hulls) zero here all at = subst (λ h. is_before pair h.pair ≡ true) (same_Some first here at) all.0
before_at pair (first ∷ hulls) (suc k) here all at = before_at pair hulls k here all.1 at

-- of two entries the earlier one's pair comes before the other's
pub order_at : (hulls : List PairHull) (j k : ℕ) (a b : PairHull) → AreInOrder hulls → j < k
    → slice_get hulls j ≡ Some a → slice_get hulls k ≡ Some b → is_before a.pair b.pair ≡ true
order_at [] j k a b so less at-j at-k = absurd (none-some a at-j)
order_at (first ∷ hulls) zero zero a b so less at-j at-k = absurd (omega arith)
order_at (first ∷ hulls) zero (suc k) a b so less at-j at-k = subst (λ h. is_before h.pair b.pair ≡ true)
    (same_Some first a at-j) (before_at first.pair hulls k b so.0 at-k)
order_at (first ∷ hulls) (suc j) zero a b so less at-j at-k = absurd (omega arith)
order_at (first ∷ hulls) (suc j) (suc k) a b so less at-j at-k = order_at hulls j k a b so.1 (omega arith) at-j at-k

-- ---- widening

abbrev new_entry : Pair → Frame → PairHull
new_entry pair by = record { pair = pair; hull = by }

abbrev choice : {X : Type 0} → Bool → Bool → X → X → X → X
choice s t on same new = if s then on else if t then same else new

widened_on : (here : PairHull) (hulls : List PairHull) (pair : Pair) (by : Frame) → is_before here.pair pair ≡ true
    → widened_list (here ∷ hulls) pair by ≡ here ∷ widened_list hulls pair by
widened_on here hulls pair by e = ap
    (λ s. choice s (same_pair here.pair pair) (here ∷ widened_list hulls pair by)
    (new_entry pair (joined_box here.hull by) ∷ hulls) (new_entry pair by ∷ here ∷ hulls)) e

widened_same : (here : PairHull) (hulls : List PairHull) (pair : Pair) (by : Frame) → is_before here.pair pair ≡ false → same_pair here.pair pair ≡ true
    → widened_list (here ∷ hulls) pair by ≡ new_entry pair (joined_box here.hull by) ∷ hulls
widened_same here hulls pair by isnt e =
    ap (λ s. choice s (same_pair here.pair pair) (here ∷ widened_list hulls pair by)
    (new_entry pair (joined_box here.hull by) ∷ hulls) (new_entry pair by ∷ here ∷ hulls)) isnt
    ∙ ap (λ t. choice false t (here ∷ widened_list hulls pair by) (new_entry pair (joined_box here.hull by) ∷ hulls) (new_entry pair by ∷ here ∷ hulls)) e

widened_new : (here : PairHull) (hulls : List PairHull) (pair : Pair) (by : Frame) → is_before here.pair pair ≡ false → same_pair here.pair pair ≡ false
    → widened_list (here ∷ hulls) pair by ≡ new_entry pair by ∷ here ∷ hulls
widened_new here hulls pair by isnt e =
    ap (λ s. choice s (same_pair here.pair pair) (here ∷ widened_list hulls pair by)
    (new_entry pair (joined_box here.hull by) ∷ hulls) (new_entry pair by ∷ here ∷ hulls)) isnt
    ∙ ap (λ t. choice false t (here ∷ widened_list hulls pair by) (new_entry pair (joined_box here.hull by) ∷ hulls) (new_entry pair by ∷ here ∷ hulls)) e

abbrev Test : PairHull → Pair → Type 0
Test here pair = (same_pair here.pair pair ≡ true) ⊎ (same_pair here.pair pair ≡ false)

test : (here : PairHull) (pair : Pair) → Test here pair
test here pair = by (same_pair here.pair pair) refl
  where
    by : (t : Bool) → same_pair here.pair pair ≡ t → Test here pair
    by true e = inl e
    by false e = inr e

-- the pair that is widened
pub widened_here : (hulls : List PairHull) (pair : Pair) (by : Frame) → AreInOrder hulls
    → hull_in (widened_list hulls pair by) pair ≡ Some (wider (hull_in hulls pair) by)
widened_here [] pair by so = head_same (new_entry pair by) [] pair (pair_same pair)
widened_here (here ∷ hulls) pair by so = elim (stand here pair) [
  | inl on ↦ let other = before_other here.pair pair on in
      ap (λ l. hull_in l pair) (widened_on here hulls pair by on) ∙ head_other here (widened_list hulls pair by) pair other ∙ widened_here hulls pair by so.1
      ∙ sym (ap (λ o. Some (wider o by)) (head_other here hulls pair other))
  | inr rest ↦ elim rest [
    | inl same ↦ ap (λ l. hull_in l pair) (widened_same here hulls pair by same.0 same.1) ∙ head_same
        (new_entry pair (joined_box here.hull by)) hulls pair (pair_same pair)
        ∙ sym (ap (λ o. Some (wider o by)) (head_same here hulls pair same.1))
    | inr behind ↦ ap (λ l. hull_in l pair) (widened_new here hulls pair by behind.0 behind.1) ∙ head_same
        (new_entry pair by) (here ∷ hulls) pair (pair_same pair)
        ∙ sym (ap (λ o. Some (wider o by)) (before_none pair (here ∷ hulls) (behind.2, before_more pair here.pair hulls behind.2 so.0)))
  ]
]

-- another pair
pub widened_elsewhere : (hulls : List PairHull) (pair q : Pair) (by : Frame) → same_pair pair q ≡ false
    → hull_in (widened_list hulls pair by) q ≡ hull_in hulls q
widened_elsewhere [] pair q by other = head_other (new_entry pair by) [] q other
widened_elsewhere (here ∷ hulls) pair q by other = elim (stand here pair) [
  | inl on ↦ ap (λ l. hull_in l q) (widened_on here hulls pair by on) ∙ elim (test here q) [
    | inl f ↦ head_same here (widened_list hulls pair by) q f ∙ sym (head_same here hulls q f)
    | inr f ↦ head_other here (widened_list hulls pair by) q f ∙ widened_elsewhere hulls pair q by other ∙ sym (head_other here hulls q f)
  ]
  | inr rest ↦ elim rest [
    | inl same ↦ ap (λ l. hull_in l q) (widened_same here hulls pair by same.0 same.1) ∙ head_other (new_entry pair (joined_box here.hull by)) hulls q other
        ∙ sym (head_other here hulls q (ap (λ p. same_pair p q) (pair_true here.pair pair same.1) ∙ other))
    | inr behind ↦ ap (λ l. hull_in l q) (widened_new here hulls pair by behind.0 behind.1) ∙ head_other (new_entry pair by) (here ∷ hulls) q other
  ]
]

before_widened : (p : Pair) (hulls : List PairHull) (pair : Pair) (by : Frame) → IsBeforeAll p hulls
    → is_before p pair ≡ true → IsBeforeAll p (widened_list hulls pair by)
before_widened p [] pair by all e = (e, tt)
before_widened p (here ∷ hulls) pair by all e = elim (stand here pair) [
  | inl on ↦ subst (IsBeforeAll p) (sym (widened_on here hulls pair by on)) (all.0, before_widened p hulls pair by all.1 e)
  | inr rest ↦ elim rest [
    | inl same ↦ subst (IsBeforeAll p) (sym (widened_same here hulls pair by same.0 same.1)) (e, all.1)
    | inr behind ↦ subst (IsBeforeAll p) (sym (widened_new here hulls pair by behind.0 behind.1)) (e, all)
  ]
]

pub widened_in_order : (hulls : List PairHull) (pair : Pair) (by : Frame) → AreInOrder hulls → AreInOrder (widened_list hulls pair by)
widened_in_order [] pair by so = (tt, tt)
widened_in_order (here ∷ hulls) pair by so = elim (stand here pair) [
  | inl on ↦ subst AreInOrder (sym (widened_on here hulls pair by on)) (before_widened here.pair hulls pair by so.0 on, widened_in_order hulls pair by so.1)
  | inr rest ↦ elim rest [
    | inl same ↦ subst AreInOrder (sym (widened_same here hulls pair by same.0 same.1))
        (subst (λ p. IsBeforeAll p hulls) (pair_true here.pair pair same.1) so.0, so.1)
    | inr behind ↦ subst AreInOrder (sym (widened_new here hulls pair by behind.0 behind.1)) ((behind.2, before_more pair here.pair hulls behind.2 so.0), so)
  ]
]

-- ---- by places

-- the entries below the place stand before the pair, those from it on don't
pub record IsPlace (hulls : List PairHull) (pair : Pair) (k : ℕ) : Type 0 where
  pub within : k ≤ length hulls
  pub below : (j : ℕ) (here : PairHull) → j < k → slice_get hulls j ≡ Some here → is_before here.pair pair ≡ true
  pub above : (j : ℕ) (here : PairHull) → k ≤ j → slice_get hulls j ≡ Some here → is_before here.pair pair ≡ false

-- the place after the first entry
next_place : (first : PairHull) (hulls : List PairHull) (pair : Pair) (k : ℕ) → IsPlace (first ∷ hulls) pair (suc k) → IsPlace hulls pair k
next_place first hulls pair k is = let w = is.within in record {
  within = omega arith;
  below = λ j here less at. is.below (suc j) here (omega arith) at;
  above = λ j here least at. is.above (suc j) here (omega arith) at;
}

pub widened_at : (hulls : List PairHull) (pair : Pair) (by : Frame) (k : ℕ) (d : PairHull) → k < length hulls
    → IsPlace hulls pair k → same_pair (get_or hulls k d).pair pair ≡ true
    → widened_list hulls pair by ≡ set hulls k (record { pair = pair; hull = joined_box (get_or hulls k d).hull by })
widened_at [] pair by k d inside at is = absurd (omega arith)
widened_at (here ∷ hulls) pair by zero d inside at is = widened_same here hulls pair by (at.above 0 here (omega arith) refl) is
widened_at (here ∷ hulls) pair by (suc k) d inside at is = widened_on here hulls pair by (at.below 0 here (omega arith) refl)
    ∙ ap (λ l. here ∷ l) (widened_at hulls pair by k d (omega arith) (next_place here hulls pair k at) is)

pub hull_at : (hulls : List PairHull) (pair : Pair) (k : ℕ) (d : PairHull) → k < length hulls → IsPlace hulls pair k
    → same_pair (get_or hulls k d).pair pair ≡ true → hull_in hulls pair ≡ Some (get_or hulls k d).hull
hull_at [] pair k d inside at is = absurd (omega arith)
hull_at (here ∷ hulls) pair zero d inside at is = head_same here hulls pair is
hull_at (here ∷ hulls) pair (suc k) d inside at is = head_other here hulls pair (before_other here.pair pair (at.below 0 here (omega arith) refl))
    ∙ hull_at hulls pair k d (omega arith) (next_place here hulls pair k at) is

-- no entry at the place has the pair
abbrev pub IsMissing : List PairHull → Pair → ℕ → Type 0
IsMissing hulls pair k = (here : PairHull) → slice_get hulls k ≡ Some here → same_pair here.pair pair ≡ false

pub widened_between : (hulls : List PairHull) (pair : Pair) (by : Frame) (k : ℕ) → IsPlace hulls pair k
    → IsMissing hulls pair k → widened_list hulls pair by ≡ insert hulls k (record { pair = pair; hull = by })
widened_between [] pair by zero at none = refl
widened_between [] pair by (suc k) at none = absurd (let w = at.within in omega arith)
widened_between (here ∷ hulls) pair by zero at none = widened_new here hulls pair by (at.above 0 here (omega arith) refl) (none here refl)
widened_between (here ∷ hulls) pair by (suc k) at none = widened_on here hulls pair by (at.below 0 here (omega arith) refl)
    ∙ ap (λ l. here ∷ l) (widened_between hulls pair by k (next_place here hulls pair k at) none)

pub no_hull : (hulls : List PairHull) (pair : Pair) (k : ℕ) → AreInOrder hulls → IsPlace hulls pair k → IsMissing hulls pair k → hull_in hulls pair ≡ None
no_hull [] pair k so at none = refl
no_hull (here ∷ hulls) pair zero so at none =
    let behind = behind_of here pair (at.above 0 here (omega arith) refl) (none here refl) in
    before_none pair (here ∷ hulls) (behind, before_more pair here.pair hulls behind so.0)
no_hull (here ∷ hulls) pair (suc k) so at none =
    head_other here hulls pair (before_other here.pair pair (at.below 0 here (omega arith) refl))
    ∙ no_hull hulls pair k so.1 (next_place here hulls pair k at) none

-- an entry is the box of its pair
pub entry_hull : (hulls : List PairHull) (k : ℕ) (here : PairHull) → AreInOrder hulls → slice_get hulls k ≡ Some here → hull_in hulls here.pair ≡ Some here.hull
entry_hull [] k here apart at = absurd (none-some here at)
entry_hull (first ∷ hulls) zero here apart at = let e = same_Some first here at in head_same first hulls here.pair
    (ap (λ h. same_pair h.pair here.pair) e ∙ pair_same here.pair) ∙ ap (λ h. Some h.hull) e
entry_hull (first ∷ hulls) (suc k) here apart at = elim (test first here.pair) [
  | inl e ↦ absurd (none-some here.hull
      (sym (before_none first.pair hulls apart.0) ∙ ap (hull_in hulls) (pair_true first.pair here.pair e)
      ∙ entry_hull hulls k here apart.1 at))
  | inr e ↦ head_other first hulls here.pair e ∙ entry_hull hulls k here apart.1 at
]

-- ---- one more entry of another list

pub hull_pushed_other : (hulls : List PairHull) (here : PairHull) (q : Pair) → same_pair here.pair q ≡ false → hull_in (hulls ++ here ∷ []) q ≡ hull_in hulls q
hull_pushed_other [] here q other = head_other here [] q other
hull_pushed_other (first ∷ hulls) here q other = elim (test first q) [
  | inl e ↦ head_same first (hulls ++ here ∷ []) q e ∙ sym (head_same first hulls q e)
  | inr e ↦ head_other first (hulls ++ here ∷ []) q e ∙ hull_pushed_other hulls here q other ∙ sym (head_other first hulls q e)
]

pub hull_pushed_new : (hulls : List PairHull) (here : PairHull) → hull_in hulls here.pair ≡ None → hull_in (hulls ++ here ∷ []) here.pair ≡ Some here.hull
hull_pushed_new [] here none = head_same here [] here.pair (pair_same here.pair)
hull_pushed_new (first ∷ hulls) here none = elim (test first here.pair) [
  | inl e ↦ absurd (none-some first.hull (sym none ∙ head_same first hulls here.pair e))
  | inr e ↦ head_other first (hulls ++ here ∷ []) here.pair e ∙ hull_pushed_new hulls here (sym (head_other first hulls here.pair e) ∙ none)
]

-- no earlier entry has the pair
pub earlier_none : (hulls : List PairHull) (k : ℕ) (here : PairHull) → AreInOrder hulls → slice_get hulls k ≡ Some here
    → hull_in (take k hulls) here.pair ≡ None
earlier_none [] k here apart at = absurd (none-some here at)
earlier_none (first ∷ hulls) zero here apart at = refl
earlier_none (first ∷ hulls) (suc k) here apart at = elim (test first here.pair) [
  | inl e ↦ absurd (none-some here.hull
      (sym (before_none first.pair hulls apart.0) ∙ ap (hull_in hulls) (pair_true first.pair here.pair e)
      ∙ entry_hull hulls k here apart.1 at))
  | inr e ↦ head_other first (take k hulls) here.pair e ∙ earlier_none hulls k here apart.1 at
]

-- what widening entry by entry gives
pub merge_more : (f : Frame → Frame) (old new placed : List PairHull) (k : ℕ) (here : PairHull) → AreInOrder new
    → AreInOrder placed → k < length placed → slice_get placed k ≡ Some here
    → ((q : Pair) → hull_in new q ≡ widest (hull_in old q) (option_map f (hull_in (take k placed) q)))
    → (q : Pair) → hull_in (widened_list new here.pair (f here.hull)) q ≡ widest (hull_in old q) (option_map f (hull_in (take (k + 1) placed) q))
merge_more f old new placed k here sorted apart inside at so q =
    let e = same_Some (get_or placed k here) here (sym (slice_get-get_or placed k here inside) ∙ at) in
    let more : take (k + 1) placed ≡ take k placed ++ here ∷ [] = take_more placed k here inside ∙ ap (λ h. take k placed ++ h ∷ []) e in
    elim (pairs here.pair q) [
      | inl same ↦ subst (λ p. hull_in (widened_list new here.pair (f here.hull)) p ≡ widest (hull_in old p)
          (option_map f (hull_in (take (k + 1) placed) p))) same
          (widened_here new here.pair (f here.hull) sorted ∙ ap (λ o. Some (wider o (f here.hull)))
          (so here.pair ∙ ap (λ o. widest (hull_in old here.pair) (option_map f o))
          (earlier_none placed k here apart at))
          ∙ sym (ap (λ o. widest (hull_in old here.pair) (option_map f o))
          (ap (λ l. hull_in l here.pair) more ∙ hull_pushed_new (take k placed) here
          (earlier_none placed k here apart at))))
      | inr other ↦ widened_elsewhere new here.pair q (f here.hull) other ∙ so q
          ∙ sym (ap (λ o. widest (hull_in old q) (option_map f o)) (ap (λ l. hull_in l q) more ∙ hull_pushed_other (take k placed) here q other))
    ]

-- ---- what the boxes are of

pub widest_hull : (P Q R : Point → Type 0) (a b : Option Frame) → ((p : Point) → P p → R p) → ((p : Point) → Q p → R p)
    → ((p : Point) → R p → P p ⊎ Q p) → IsHull P a → IsHull Q b → IsHull R (widest a b)
widest_hull P Q R None None left right out p q = λ r h. elim (out r h) [ inl hp ↦ p r hp | inr hq ↦ q r hq ]
widest_hull P Q R None (Some b) left right out p q = same_least Q R b right (λ r h. elim (out r h) [ inl hp ↦ absurd (p r hp) | inr hq ↦ hq ]) q
widest_hull P Q R (Some a) None left right out p q = same_least P R a left (λ r h. elim (out r h) [ inl hp ↦ hp | inr hq ↦ absurd (q r hq) ]) p
widest_hull P Q R (Some a) (Some b) left right out p q = joined_least P Q R a b left right out p q

-- the box of all pairs
pub whole_hull : (V : Pair → Point → Type 0) (P R : Point → Type 0) (acc : Option Frame) (hulls : List PairHull) → AreInOrder hulls → IsHull P acc
    → ((k : ℕ) (here : PairHull) → slice_get hulls k ≡ Some here → IsLeastBox (V here.pair) here.hull)
    → ((p : Point) → P p → R p) → ((k : ℕ) (here : PairHull) (p : Point) → slice_get hulls k ≡ Some here → V here.pair p → R p)
    → ((p : Point) → R p → P p ⊎ ((k : ℕ) × (here : PairHull) × (slice_get hulls k ≡ Some here) × V here.pair p)) → IsHull R (whole_from acc hulls)
whole_hull V P R acc [] apart is sound left right out = by acc is
  where
    cut : (p : Point) → R p → P p
    cut p r = elim (out p r) [ inl hp ↦ hp | inr none ↦ absurd (none-some none.1 none.2) ]

    by : (o : Option Frame) → IsHull P o → IsHull R o
    by None none = λ p r. none p (cut p r)
    by (Some box) least = same_least P R box left cut least
whole_hull V P R acc (here ∷ hulls) apart is sound left right out =
    let Q : Point → Type 0 = λ p. P p ⊎ V here.pair p in
    whole_hull V (λ p. P p ⊎ V here.pair p) R (Some (wider acc here.hull)) hulls apart.1
    (widest_hull P (V here.pair) (λ p. P p ⊎ V here.pair p) acc (Some here.hull) (λ p h. inl h) (λ p h. inr h) (λ p h. h) is (sound 0 here refl))
    (λ k h at. sound (suc k) h at)
    (λ p h. elim h [ inl hp ↦ left p hp | inr hv ↦ right 0 here p refl hv ])
    (λ k h p at v. right (suc k) h p at v)
    (λ p r. elim (out p r) [ inl hp ↦ inl (inl hp) | inr one ↦ split here hulls p one.0 one.1 one.2 one.3 ])
  where
    split : (here : PairHull) (hulls : List PairHull) (p : Point) (k : ℕ) (h : PairHull) → slice_get (here ∷ hulls) k ≡ Some h → V h.pair p
        → (P p ⊎ V here.pair p) ⊎ ((k : ℕ) × (h : PairHull) × (slice_get hulls k ≡ Some h) × V h.pair p)
    split here hulls p zero h at v = inl (inr (subst (λ e. V e.pair p) (sym (same_Some here h at)) v))
    split here hulls p (suc k) h at v = inr (k, h, at, v)

-- ---- the search for a place

module _ (hulls : List PairHull) (pair : Pair) (m : ℕ) (middle : PairHull) where
  -- the entry in the middle comes before the pair, so those below it do too
  pub all_below : AreInOrder hulls → slice_get hulls m ≡ Some middle → is_before middle.pair pair ≡ true
      → (j : ℕ) (here : PairHull) → j < m + 1 → slice_get hulls j ≡ Some here → is_before here.pair pair ≡ true
  all_below so mid e j here less at = elim (cases_lt j m) [
    | inl below ↦ before_through here.pair middle.pair pair (order_at hulls j m here middle so below at mid) e
    | inr other ↦ let same : m ≡ j = omega arith in subst (λ h. is_before h.pair pair ≡ true)
        (same_Some middle here (sym mid ∙ ap (slice_get hulls) same ∙ at)) e
  ]

  -- it doesn't, so those above it don't
  pub none_above : AreInOrder hulls → slice_get hulls m ≡ Some middle → is_before middle.pair pair ≡ false
      → (j : ℕ) (here : PairHull) → m ≤ j → slice_get hulls j ≡ Some here → is_before here.pair pair ≡ false
  none_above so mid e j here least at = elim (cases_lt m j) [
    | inl above ↦ by (is_before here.pair pair) refl above
    | inr other ↦ let same : m ≡ j = omega arith in subst (λ h. is_before h.pair pair ≡ false)
        (same_Some middle here (sym mid ∙ ap (slice_get hulls) same ∙ at)) e
  ]
    where
      by : (t : Bool) → is_before here.pair pair ≡ t → m < j → is_before here.pair pair ≡ false
      by true f above = absurd (true≢false (sym (before_through middle.pair here.pair pair (order_at hulls m j middle here so above mid at) f) ∙ e))
      by false f above = f
