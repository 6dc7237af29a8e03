-- Shapes that are given again and again: what holds of them once holds of all copies.
use Rattle.std.proofs.Common.{◌≡◌, ◌≤◌, ◌<◌, ◌+◌, ◌-◌, ◌*◌, ◌%◌, ◌⊎◌, inl, inr, ℕ, zero, suc, List, length, take, drop, slice_get}
use Rattle.std.proofs.Common.{refl, sym, ap, ◌∙◌, arith}
use Rattle.std.proofs.lemmas.Nat.{mod_below}
use Rattle.layout_model.specs.Repeats.{AreCopies}
use Rattle.layout_model.specs.declared.shapes.Shape.{Shape}
use Rattle.layout_model.proofs.ForCallers.{copied, sum_copied}
use Rattle.cell_tree.specs.Cells.{HasNoneFixed}
use Rattle.cell_tree.specs.Counting.{saturated, own_count}
use Rattle.cell_tree.specs.HullTables.{OwnVertex, AreFirstHulls, hull_in}
use Rattle.cell_tree.specs.declared.hulls.PairHull.{PairHull}
use Rattle.cell_tree.proofs.BoxLemmas.{same_hull}

at_least : (times period : ℕ) → 0 < times → period ≤ times * period
at_least zero period some = absurd (omega arith)
at_least (suc times) period some = omega arith

-- the shapes once end no later than all copies
pub first_copy : (shapes : List Shape) (k period times : ℕ) → AreCopies shapes k period times → k + period ≤ k + times * period
first_copy shapes k period times is = omega (arith, at_least times period is.once)

-- a shape up to the end of all copies is one up to the end of the first copy
pub in_first : (shapes : List Shape) (k period times i : ℕ) → AreCopies shapes k period times → i < k + times * period
    → (n : ℕ) × (n < k + period) × (slice_get shapes i ≡ slice_get shapes n) × ((i < k) ⊎ (k ≤ n))
in_first shapes k period times i is inside = elim (less_or_not i k) as
    (λ _. (n : ℕ) × (n < k + period) × (slice_get shapes i ≡ slice_get shapes n) × ((i < k) ⊎ (k ≤ n))) [
      | inl before ↦ (i, omega (arith, before, is.some), refl, inl before)
      | inr after ↦ (
          let j : ℕ = i - k in
          let e : i ≡ k + j = omega (arith, after) in
          let small : j % period < period = mod_below j period is.some in (
            k + j % period,
            omega (arith, small),
            ap (slice_get shapes) e ∙ copied shapes k period times j is (omega (arith, inside, after)),
            inr (omega arith),
          ))
    ]
  where
    less_or_not : (a b : ℕ) → (a < b) ⊎ (b ≤ a)
    less_or_not zero zero = inr (omega arith)
    less_or_not zero (suc b) = inl (omega arith)
    less_or_not (suc a) zero = inr (omega arith)
    less_or_not (suc a) (suc b) = elim (less_or_not a b) as (λ _. (suc a < suc b) ⊎ (suc b ≤ suc a)) [ inl h ↦ inl (omega arith) | inr h ↦ inr (omega arith) ]

-- none of them is fixed
pub none_copied : (shapes : List Shape) (k period times : ℕ) → AreCopies shapes k period times → HasNoneFixed shapes 0 k
    → HasNoneFixed shapes k (k + period) → HasNoneFixed shapes 0 (k + times * period)
none_copied shapes k period times is before once i shape from inside here fixed =
    let first = in_first shapes k period times i is inside in
    elim first.3 as (λ _. ⊥) [
      | inl early ↦ before i shape (omega arith) early here fixed
      | inr late ↦ once first.0 shape late first.1 (sym first.2 ∙ here) fixed
    ]

-- their boxes
pub hulls_copied : (shapes : List Shape) (k period times : ℕ) (hulls : List PairHull) → AreCopies shapes k period times
    → AreFirstHulls shapes (k + period) hulls → AreFirstHulls shapes (k + times * period) hulls
hulls_copied shapes k period times hulls is once = (
  once.0,
  λ pair. same_hull (OwnVertex shapes (k + period) pair) (OwnVertex shapes (k + times * period) pair) (hull_in hulls pair)
      (λ p own. record {
        number = own.number;
        early = omega (arith, own.early, first_copy shapes k period times is);
        shape = own.shape;
        here = own.here;
        on_pair = own.on_pair;
        vertex = own.vertex;
      })
      (λ p own. (let first = in_first shapes k period times own.number is own.early in record {
        number = first.0;
        early = first.1;
        shape = own.shape;
        here = sym first.2 ∙ own.here;
        on_pair = own.on_pair;
        vertex = own.vertex;
      }))
      (once.1 pair),
)

-- how many they are
times_saturated : (times n : ℕ) → saturated (times * saturated n) ≡ saturated (times * n)
times_saturated zero n = omega arith
times_saturated (suc times) n = omega (arith, times_saturated times n)

pub counted_copies : (shapes : List Shape) (k period times count once : ℕ) → AreCopies shapes k period times
    → count ≡ saturated (own_count (take k shapes)) → once ≡ saturated (own_count (take (k + period - k) (drop k shapes)))
    → saturated (count + saturated (once * times)) ≡ saturated (own_count (take (k + times * period) shapes))
counted_copies shapes k period times count once is so here =
    let n : ℕ = own_count (take period (drop k shapes)) in
    let mine : once ≡ saturated n =
    let e : k + period - k ≡ period = omega arith in here ∙ ap (λ m. saturated (own_count (take m (drop k shapes)))) e in
    let all = sum_copied (λ shape. length shape.offsets) shapes k period times is in
    let turned : once * times ≡ times * saturated n = ap (λ m. m * times) mine ∙ omega arith in
    omega (arith, all, so, ap saturated turned, times_saturated times n)
