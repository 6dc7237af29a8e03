-- Columns in ascending order: where one stands, and what an insertion leaves.
use Rattle.std.proofs.Common.{ℕ, ◌+◌, ◌-◌, ◌/◌, ◌<◌, ◌≤◌, ◌≡◌, ◌⊎◌, inl, inr, ℤ, ◌≤ℤ◌, ◌<ℤ◌, List, ◌∷◌, length, arith, ap, subst, ◌∙◌, sym}
use Rattle.std.proofs.lemmas.Int.{ints, by_lt_z}
use Rattle.std.proofs.lemmas.Bool.{cases_lt}
use Rattle.std.proofs.lemmas.List.{get_or_default}
use Rattle.std.proofs.lemmas.List.Edits.{length-insert, get_or-insert_below, get_or-insert_at, get_or-insert_above}
use Rattle.std.proofs.lemmas.List.Sorted.{All-permutation, IsPermutation-insert}
use Rattle.std.proofs.lemmas.List.Elements.{All-cons}
use Rattle.std.specs.List.{insert}
use Rattle.density_map.specs.declared.counts.Counted.{Counted}
use Rattle.density_map.specs.Counts.{AreCounts, IsPlaceOf, HasColumn, IsLess, IsNotLess, column_of}

-- where k stands to i
three_by : (k i : ℕ) → (k < i) ⊎ (i ≤ k) → (i < k) ⊎ (k ≤ i) → (k < i) ⊎ ((k ≡ i) ⊎ (i < k))
three_by k i (inl a) q = inl a
three_by k i (inr a) (inl b) = inr (inr b)
three_by k i (inr a) (inr b) = inr (inl (omega (arith, a, b)))

three : (k i : ℕ) → (k < i) ⊎ ((k ≡ i) ⊎ (i < k))
three k i = three_by k i (cases_lt k i) (cases_lt i k)

-- ---- places

module _ (xs : List Counted) (counts : AreCounts xs) (column : ℤ) (at : ℕ) where
  before_by : (k : ℕ) (d : Counted) → (0 < at → IsLess xs (at - 1) column) → at ≤ length xs → k < at → (k < at - 1)
      ⊎ ((k ≡ at - 1) ⊎ (at - 1 < k)) → column_of xs k d <ℤ column
  before_by k d less inside below (inl a) =
      let one = counts.ascending k (at - 1) d a (omega (arith, inside, below)) in
      let last = less (omega (arith, below)) d in
      omega (arith, ints, one, last)
  before_by k d less inside below (inr (inl a)) = subst (λ (n : ℕ). column_of xs n d <ℤ column) (sym a) (less (omega (arith, below)) d)
  before_by k d less inside below (inr (inr a)) = absurd (omega (arith, below, a))

  after_by : (k : ℕ) (d : Counted) → (at < length xs → IsNotLess xs at column) → at ≤ k → k < length xs → (k < at)
      ⊎ ((k ≡ at) ⊎ (at < k)) → column ≤ℤ column_of xs k d
  after_by k d more from inside (inl a) = absurd (omega (arith, from, a))
  after_by k d more from inside (inr (inl a)) = subst (λ (n : ℕ). column ≤ℤ column_of xs n d) (sym a) (more (omega (arith, from, inside)) d)
  after_by k d more from inside (inr (inr a)) =
      let one = counts.ascending at k d a inside in
      let first = more (omega (arith, a, inside)) d in
      omega (arith, ints, one, first)

  pub place_here : at ≤ length xs → (0 < at → IsLess xs (at - 1) column) → (at < length xs → IsNotLess xs at column) → IsPlaceOf xs column at
  place_here inside less more = record {
    inside = inside;
    before = λ k d below. before_by k d less inside below (three k (at - 1));
    after = λ k d from under. after_by k d more from under (three k at);
  }

-- in ascending order, what stands up to a number that is less is less, and what stands from one on that isn't isn't
pub less_up_to : (xs : List Counted) (counts : AreCounts xs) (column : ℤ) (middle k : ℕ) (d : Counted)
    → column_of xs middle d <ℤ column → middle < length xs → k < middle + 1 → column_of xs k d <ℤ column
less_up_to xs counts column middle k d less inside below = by (three k middle)
  where
    by : (k < middle) ⊎ ((k ≡ middle) ⊎ (middle < k)) → column_of xs k d <ℤ column
    by (inl a) = let one = counts.ascending k middle d a inside in omega (arith, ints, one, less)
    by (inr (inl a)) = subst (λ (n : ℕ). column_of xs n d <ℤ column) (sym a) less
    by (inr (inr a)) = absurd (omega (arith, a, below))

pub not_less_from : (xs : List Counted) (counts : AreCounts xs) (column : ℤ) (middle k : ℕ) (d : Counted)
    → column ≤ℤ column_of xs middle d → k < length xs → middle ≤ k → column ≤ℤ column_of xs k d
not_less_from xs counts column middle k d more inside from = by (three k middle)
  where
    by : (k < middle) ⊎ ((k ≡ middle) ⊎ (middle < k)) → column ≤ℤ column_of xs k d
    by (inl a) = absurd (omega (arith, a, from))
    by (inr (inl a)) = subst (λ (n : ℕ). column ≤ℤ column_of xs n d) (sym a) more
    by (inr (inr a)) = let one = counts.ascending middle k d a inside in omega (arith, ints, one, more)

-- ---- insertion

module _ (xs : List Counted) (counts : AreCounts xs) (y : Counted) (at : ℕ) (place : IsPlaceOf xs y.column at) (new : HasColumn xs at y.column → ⊥) where
  at_place : (d : Counted) → at < length xs → y.column <ℤ column_of xs at d
  at_place d inside =
      by_lt_z y.column (column_of xs at d)
      (λ less. less)
      (λ more. absurd (new
      (record {
        inside = inside;
        is = λ e. ap (λ (c : Counted). c.column) (get_or_default xs at e d inside)
            ∙ (let low = place.after at d (omega arith) inside in omega (arith, ints, low, more));
      })))

  strict_by : (k : ℕ) (d : Counted) → at ≤ k → k < length xs → (k < at) ⊎ ((k ≡ at) ⊎ (at < k)) → y.column <ℤ column_of xs k d
  strict_by k d from inside (inl a) = absurd (omega (arith, from, a))
  strict_by k d from inside (inr (inl a)) = subst (λ (n : ℕ). y.column <ℤ column_of xs n d) (sym a) (at_place d (omega (arith, from, inside)))
  strict_by k d from inside (inr (inr a)) =
      let first = at_place d (omega (arith, a, inside)) in
      let rest = counts.ascending at k d a inside in
      omega (arith, ints, first, rest)

  after_place : (k : ℕ) (d : Counted) → at ≤ k → k < length xs → y.column <ℤ column_of xs k d
  after_place k d from inside = strict_by k d from inside (three k at)

  in_below : (k : ℕ) (d : Counted) → k < at → column_of (insert xs at y) k d ≡ column_of xs k d
  in_below k d below = ap (λ (c : Counted). c.column) (get_or-insert_below xs at y d k below place.inside)

  in_here : (k : ℕ) (d : Counted) → k ≡ at → column_of (insert xs at y) k d ≡ y.column
  in_here k d e = ap (λ (n : ℕ). column_of (insert xs at y) n d) e ∙ ap (λ (c : Counted). c.column) (get_or-insert_at xs at y d place.inside)

  in_above : (k : ℕ) (d : Counted) → at < k → column_of (insert xs at y) k d ≡ column_of xs (k - 1) d
  in_above k d above =
      let e : k ≡ (k - 1) + 1 = omega (arith, above) in
      ap (λ (n : ℕ). column_of (insert xs at y) n d) e ∙ ap (λ (c : Counted). c.column)
      (get_or-insert_above xs at y d (k - 1) (omega (arith, above)) place.inside)

  ascending_by : (j k : ℕ) (d : Counted) → j < k → k < length xs + 1 → (j < at) ⊎ ((j ≡ at) ⊎ (at < j)) → (k < at) ⊎ ((k ≡ at) ⊎ (at < k))
      → column_of (insert xs at y) j d <ℤ column_of (insert xs at y) k d
  ascending_by j k d less inside (inl a) (inl b) = rw (in_below j d a, in_below k d b) (counts.ascending j k d less (omega (arith, b, place.inside)))
  ascending_by j k d less inside (inl a) (inr (inl b)) = rw (in_below j d a, in_here k d b) (place.before j d a)
  ascending_by j k d less inside (inl a) (inr (inr b)) = rw (in_below j d a, in_above k d b)
      (counts.ascending j (k - 1) d (omega (arith, a, b)) (omega (arith, inside, b)))
  ascending_by j k d less inside (inr (inl a)) (inl b) = absurd (omega (arith, a, b, less))
  ascending_by j k d less inside (inr (inl a)) (inr (inl b)) = absurd (omega (arith, a, b, less))
  ascending_by j k d less inside (inr (inl a)) (inr (inr b)) = rw (in_here j d a, in_above k d b)
      (after_place (k - 1) d (omega (arith, b)) (omega (arith, inside, b)))
  ascending_by j k d less inside (inr (inr a)) (inl b) = absurd (omega (arith, a, b, less))
  ascending_by j k d less inside (inr (inr a)) (inr (inl b)) = absurd (omega (arith, a, b, less))
  ascending_by j k d less inside (inr (inr a)) (inr (inr b)) =
      rw (in_above j d a, in_above k d b) (counts.ascending (j - 1) (k - 1) d (omega (arith, a, less)) (omega (arith, inside, b)))

  pub inserted : 0 < y.tiles → AreCounts (insert xs at y)
  inserted some = record {
    ascending = λ j k d less inside. ascending_by j k d less (omega (arith, inside, length-insert xs at y place.inside)) (three j at) (three k at);
    above_zero = All-permutation (λ (c : Counted). 0 < c.tiles) (y ∷ xs) (insert xs at y)
        (IsPermutation-insert xs at y) (All-cons (λ (c : Counted). 0 < c.tiles) y xs some counts.above_zero);
  }

-- ---- halving

pub middle_low : (low high : ℕ) → low ≤ low + (high - low) / 2
middle_low low high = omega arith

pub middle_high : (low high : ℕ) → low < high → low + (high - low) / 2 < high
middle_high low high h = omega (arith, h)
