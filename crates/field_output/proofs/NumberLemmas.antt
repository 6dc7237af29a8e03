-- The numbers of shots by a test: they ascend, two lists of them merge to one, and a list of them is filtered.
use Rattle.std.proofs.Common.{◌≡◌, ℕ, zero, suc, ◌+◌, ◌≤◌, ◌<◌, ◌⊎◌, inl, inr, Bool, true, false, cond, ◌&&◌, nat_lt, nat_le}
use Rattle.std.proofs.Common.{nat_eq, List, [], ◌∷◌, ◌++◌, length, slice_get, get_or, take, drop, All, Some, None, Option, refl, ap, ◌∙◌, arith}
use Rattle.std.proofs.lemmas.Bool.Decides.{nat_tests}
use Rattle.std.proofs.lemmas.List.Elements.{All-nil, All-cons, All-head, All-tail, filter-append}
use Rattle.std.specs.List.{AllZip, filter}
use Rattle.std.specs.List.Sorted.{IsSorted}
use Rattle.std.specs.Ordering.{nat_cmp, is_lt, is_le}
use Rattle.geo_stream.specs.Merged.{merge, merge_from}
use Rattle.half_grid.specs.Trapezoids.{Trapezoid}
use Rattle.field_output.specs.Meeting.{numbers, HasNumber}
use Rattle.field_output.specs.StreamLaws.{there}

-- ---- ascending numbers

abbrev pub IsAscending : ℕ → List ℕ → Type 0
IsAscending low [] = Unit {0}
IsAscending low (n ∷ ns) = (low ≤ n) × IsAscending (suc n) ns

pub ascending_weaker : (less low : ℕ) (ns : List ℕ) → less ≤ low → IsAscending low ns → IsAscending less ns
ascending_weaker less low [] le h = tt
ascending_weaker less low (n ∷ ns) le h = (omega (arith, le, h.0), h.1)

with_or_without : (b : Bool) (n : ℕ) (rest : List ℕ) → IsAscending (suc n) rest → IsAscending n (cond b (n ∷ rest) rest)
with_or_without true n rest h = (omega arith, h)
with_or_without false n rest h = ascending_weaker n (suc n) rest (omega arith) h

pub numbers_ascend : (test : Trapezoid → Bool) (n : ℕ) (zs : List Trapezoid) → IsAscending n (numbers test n zs)
numbers_ascend test n [] = tt
numbers_ascend test n (z ∷ zs) = with_or_without (test z) n (numbers test (suc n) zs) (numbers_ascend test (suc n) zs)

not_less : (a b : ℕ) → b ≤ a → is_lt (nat_cmp a b) ≡ false
not_less a b h = grind (arith, nat_tests)

less_first : (a b : ℕ) → a < b → is_le (nat_cmp a b) ≡ true
less_first a b h = grind (arith, nat_tests)

greater_later : (a b : ℕ) → b < a → is_le (nat_cmp a b) ≡ false
greater_later a b h = grind (arith, nat_tests)

sorted_at : (low : ℕ) (ns : List ℕ) → IsAscending low ns → (k d : ℕ) → k + 1 < length ns → is_lt (nat_cmp (get_or ns (k + 1) d) (get_or ns k d)) ≡ false
sorted_at low [] h k d lt = absurd (omega (arith, lt))
sorted_at low (n ∷ []) h k d lt = absurd (omega (arith, lt))
sorted_at low (n ∷ m ∷ ns) h zero d lt = not_less m n (omega (arith, h.1.0))
sorted_at low (n ∷ m ∷ ns) h (suc k) d lt =
    let one_more : suc k + 1 ≡ suc (k + 1) = omega arith in
    ap (λ (i : ℕ). is_lt (nat_cmp (get_or (n ∷ m ∷ ns) i d) (get_or (n ∷ m ∷ ns) (suc k) d))) one_more ∙ sorted_at (suc n) (m ∷ ns) h.1 k d (omega (arith, lt))

pub ascending_sorted : (low : ℕ) (ns : List ℕ) → IsAscending low ns → IsSorted nat_cmp ns
ascending_sorted low ns h = λ k d from below. sorted_at low ns h k d below

-- ---- two lists of numbers, merged

first_goes : (n : ℕ) (xs ys : List ℕ) → IsAscending (suc n) ys → merge nat_cmp (n ∷ xs) ys ≡ n ∷ merge nat_cmp xs ys
first_goes n xs [] h = refl
first_goes n xs (y ∷ ys) h = ap (λ b. cond b (n ∷ merge nat_cmp xs (y ∷ ys)) (y ∷ merge_from nat_cmp n (merge nat_cmp xs) ys)) (less_first n y
    (omega (arith, h.0)))

second_goes : (n : ℕ) (xs ys : List ℕ) → IsAscending (suc n) xs → merge nat_cmp xs (n ∷ ys) ≡ n ∷ merge nat_cmp xs ys
second_goes n [] ys h = refl
second_goes n (x ∷ xs) ys h = ap (λ b. cond b (x ∷ merge nat_cmp xs (n ∷ ys)) (n ∷ merge_from nat_cmp x (merge nat_cmp xs) ys)) (greater_later x n
    (omega (arith, h.0)))

-- the third test holds where the first or the second does, and never both
pub record IsEither (a b c : Bool) : Type 0 where
  pub or : (a ≡ true) × (b ≡ false) × (c ≡ true) ⊎ (a ≡ false) × (b ≡ true) × (c ≡ true) ⊎ (a ≡ false) × (b ≡ false) × (c ≡ false)

module _ (p q r : Trapezoid → Bool) where
  abbrev Either : Trapezoid → Type 0
  Either z = IsEither (p z) (q z) (r z)

  step : (a b c : Bool) (n : ℕ) (xs ys zs : List ℕ) → IsEither a b c → IsAscending (suc n) xs → IsAscending (suc n) ys → merge nat_cmp xs ys ≡ zs
      → merge nat_cmp (cond a (n ∷ xs) xs) (cond b (n ∷ ys) ys) ≡ cond c (n ∷ zs) zs
  step true false true n xs ys zs h up vp e = first_goes n xs ys vp ∙ ap (λ l. n ∷ l) e
  step false true true n xs ys zs h up vp e = second_goes n xs ys up ∙ ap (λ l. n ∷ l) e
  step false false false n xs ys zs h up vp e = e
  step true true c n xs ys zs h up vp e = absurd (not_both c h.or)
    where
      not_both : (c : Bool) → (true ≡ true) × (true ≡ false) × (c ≡ true) ⊎ (true ≡ false) × (true ≡ true) × (c ≡ true) ⊎ (true ≡ false) ×
          (true ≡ false) × (c ≡ false) → ⊥
      not_both c (inl h) = cc
      not_both c (inr (inl h)) = cc
      not_both c (inr (inr h)) = cc
  step true false false n xs ys zs h up vp e = absurd (one h.or)
    where
      one : (true ≡ true) × (false ≡ false) × (false ≡ true) ⊎ (true ≡ false) × (false ≡ true) × (false ≡ true) ⊎ (true ≡ false) × (false ≡ false) ×
          (false ≡ false) → ⊥
      one (inl h) = cc
      one (inr (inl h)) = cc
      one (inr (inr h)) = cc
  step false true false n xs ys zs h up vp e = absurd (one h.or)
    where
      one : (false ≡ true) × (true ≡ false) × (false ≡ true) ⊎ (false ≡ false) × (true ≡ true) × (false ≡ true) ⊎ (false ≡ false) × (true ≡ false) ×
          (false ≡ false) → ⊥
      one (inl h) = cc
      one (inr (inl h)) = cc
      one (inr (inr h)) = cc
  step false false true n xs ys zs h up vp e = absurd (one h.or)
    where
      one : (false ≡ true) × (false ≡ false) × (true ≡ true) ⊎ (false ≡ false) × (false ≡ true) × (true ≡ true) ⊎ (false ≡ false) ×
          (false ≡ false) × (true ≡ false) → ⊥
      one (inl h) = cc
      one (inr (inl h)) = cc
      one (inr (inr h)) = cc

  pub merged_numbers : (n : ℕ) (zs : List Trapezoid) → All Either zs → merge nat_cmp (numbers p n zs) (numbers q n zs) ≡ numbers r n zs
  merged_numbers n [] h = refl
  merged_numbers n (z ∷ zs) h =
      step (p z) (q z) (r z) n (numbers p (suc n) zs) (numbers q (suc n) zs) (numbers r (suc n) zs) (All-head Either z zs h)
      (numbers_ascend p (suc n) zs) (numbers_ascend q (suc n) zs) (merged_numbers (suc n) zs (All-tail Either z zs h))

-- ---- how many there are

pub numbers_few : (test : Trapezoid → Bool) (n : ℕ) (zs : List Trapezoid) → length (numbers test n zs) ≤ length zs
numbers_few test n [] = omega arith
numbers_few test n (z ∷ zs) = by (test z) (numbers_few test (suc n) zs)
  where
    by : (b : Bool) → length (numbers test (suc n) zs) ≤ length zs → length (cond b (n ∷ numbers test (suc n) zs) (numbers test (suc n) zs)) ≤ suc (length zs)
    by true h = omega (arith, h)
    by false h = omega (arith, h)

-- ---- the shots that have them

-- the items from the n-th on
drop_step : {A : Type 0} (xs : List A) (n : ℕ) (z : A) (zs : List A) → drop n xs ≡ z ∷ zs → (slice_get xs n ≡ Some z) × (drop (suc n) xs ≡ zs)
drop_step [] zero z zs e = absurd (no_items z zs e)
  where
    no_items : {A : Type 0} (z : A) (zs : List A) → [] ≡ z ∷ zs → ⊥
    no_items z zs e = cc
drop_step [] (suc n) z zs e = absurd (no_items z zs e)
  where
    no_items : {A : Type 0} (z : A) (zs : List A) → [] ≡ z ∷ zs → ⊥
    no_items z zs e = cc
drop_step (x ∷ xs) zero z zs e = (cc, cc)
drop_step (x ∷ xs) (suc n) z zs e = drop_step xs n z zs e

module _ (shots : List Trapezoid) where
  pub numbered : (test : Trapezoid → Bool) (n : ℕ) (zs : List Trapezoid) → drop n shots ≡ zs → AllZip (HasNumber shots) (numbers test n zs) (filter test zs)
  numbered test n [] e = tt
  numbered test n (z ∷ zs) e = by (test z) (numbered test (suc n) zs (drop_step shots n z zs e).1)
    where
      by : (b : Bool) → AllZip (HasNumber shots) (numbers test (suc n) zs) (filter test zs)
          → AllZip (HasNumber shots) (cond b (n ∷ numbers test (suc n) zs) (numbers test (suc n) zs)) (cond b (z ∷ filter test zs) (filter test zs))
      by true h = ((drop_step shots n z zs e).0, h)
      by false h = h

  -- whether the shot of a number passes the test
  abbrev pub passes_some : (Trapezoid → Bool) → Option Trapezoid → Bool
  passes_some test None = false
  passes_some test (Some z) = test z

  abbrev pub passes : (Trapezoid → Bool) → ℕ → Bool
  passes test n = passes_some test (slice_get shots n)

  pub filtered : (p q r : Trapezoid → Bool) → ((z : Trapezoid) → r z ≡ p z && q z) → (n : ℕ) (zs : List Trapezoid) → drop n shots ≡ zs → filter
      (passes q) (numbers p n zs) ≡ numbers r n zs
  filtered p q r both n [] e = refl
  filtered p q r both n (z ∷ zs) e =
      by (p z) (q z) (r z) (both z) (ap (passes_some q) (drop_step shots n z zs e).0) (filtered p q r both (suc n) zs (drop_step shots n z zs e).1)
    where
      by : (a b c : Bool) → c ≡ a && b → passes q n ≡ b → filter (passes q) (numbers p (suc n) zs) ≡ numbers r (suc n) zs
          → filter (passes q) (cond a (n ∷ numbers p (suc n) zs) (numbers p (suc n) zs)) ≡ cond c (n ∷ numbers r (suc n) zs) (numbers r (suc n) zs)
      by true true true f g h = ap (λ t. cond t (n ∷ filter (passes q) (numbers p (suc n) zs)) (filter (passes q) (numbers p (suc n) zs))) g ∙ ap (λ l. n ∷ l) h
      by true false false f g h = ap (λ t. cond t (n ∷ filter (passes q) (numbers p (suc n) zs)) (filter (passes q) (numbers p (suc n) zs))) g ∙ h
      by true true false f g h = cc
      by true false true f g h = cc
      by false true true f g h = cc
      by false false true f g h = cc
      by false true false f g h = h
      by false false false f g h = h

  -- each is the number of a shot
  pub numbers_below : (test : Trapezoid → Bool) (n : ℕ) (zs : List Trapezoid) → drop n shots ≡ zs → All (λ (m : ℕ). m < length shots) (numbers test n zs)
  numbers_below test n [] e = All-nil (λ (m : ℕ). m < length shots)
  numbers_below test n (z ∷ zs) e = by (test z) (numbers_below test (suc n) zs (drop_step shots n z zs e).1)
    where
      by : (b : Bool) → All (λ (m : ℕ). m < length shots) (numbers test (suc n) zs) → All (λ (m : ℕ). m < length shots) (cond b (n ∷ numbers test
          (suc n) zs) (numbers test (suc n) zs))
      by true h = All-cons (λ (m : ℕ). m < length shots) n (numbers test (suc n) zs) (there shots n z (drop_step shots n z zs e).0) h
      by false h = h

-- ---- lists that are filtered item by item

pub filter_few : {A : Type 0} (test : A → Bool) (xs : List A) → length (filter test xs) ≤ length xs
filter_few test [] = omega arith
filter_few test (x ∷ xs) = by (test x) (filter_few test xs)
  where
    by : (b : Bool) → length (filter test xs) ≤ length xs → length (cond b (x ∷ filter test xs) (filter test xs)) ≤ suc (length xs)
    by true h = omega (arith, h)
    by false h = omega (arith, h)

-- one item more
pub filter_more : {A : Type 0} (test : A → Bool) (xs : List A) (k : ℕ) (x : A) → slice_get xs k ≡ Some x → filter test (take
    (k + 1) xs) ≡ filter test (take k xs) ++ cond (test x) (x ∷ []) []
filter_more test xs k x at =
    ap (filter test) (take_more xs k x at) ∙ filter-append test (take k xs) (x ∷ [])
  where
    take_more : {A : Type 0} (xs : List A) (k : ℕ) (x : A) → slice_get xs k ≡ Some x → take (k + 1) xs ≡ take k xs ++ x ∷ []
    take_more [] k x at = cc
    take_more (y ∷ xs) zero x at = cc
    take_more (y ∷ xs) (suc k) x at =
        let one_more : suc k + 1 ≡ suc (k + 1) = omega arith in
        ap (λ (n : ℕ). take n (y ∷ xs)) one_more ∙ ap (λ l. y ∷ l) (take_more xs k x at)

-- ---- which shots come into a stripe

-- those that come into the next one are those that meet this one and go on
pub next_ones : (b e s : ℕ) → nat_lt b (s + 1) && nat_le (s + 1) e ≡ (nat_le b s && nat_le s e) && nat_lt s e
next_ones b e s = grind (arith, nat_tests)

-- a shot that meets the stripe begins there or comes in
pub either_way : (b e s : ℕ) → b ≤ e → IsEither (nat_lt b s && nat_le s e) (nat_eq b s) (nat_le b s && nat_le s e)
either_way b e s h = record { or = grind (arith, nat_tests) }

-- none comes into the first
pub none_come_in : (b e : Trapezoid → ℕ) (n : ℕ) (zs : List Trapezoid) → numbers (λ z. nat_lt (b z) 0 && nat_le 0 (e z)) n zs ≡ []
none_come_in b e n [] = refl
none_come_in b e n (z ∷ zs) = by (nat_lt (b z) 0 && nat_le 0 (e z)) (grind (arith, nat_tests)) (none_come_in b e (suc n) zs)
  where
    by : (t : Bool) → t ≡ false → numbers (λ z. nat_lt (b z) 0 && nat_le 0 (e z)) (suc n) zs ≡ [] → cond t (n ∷ numbers (λ z. nat_lt
        (b z) 0 && nat_le 0 (e z)) (suc n) zs) (numbers (λ z. nat_lt (b z) 0 && nat_le 0 (e z)) (suc n) zs) ≡ []
    by true f h = cc
    by false f h = h
