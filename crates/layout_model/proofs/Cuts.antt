-- Where a list is cut: what stands there, what comes after it, and what a walk along the list has passed.
use Rattle.std.proofs.Common.{◌≡◌, ◌<◌, ◌≤◌, ℕ, ◌+◌, List, [], ◌∷◌, length, get_or, drop, arith, below_more, suc, zero}
use Rattle.std.proofs.Common.{refl, inl, inr, Some, None, slice_get, ap, ◌∙◌}
use Rattle.std.proofs.lemmas.Bool.{cases_lt}
use Rattle.std.proofs.lemmas.Option.{slice_get-get_or}
use Rattle.layout_model.specs.Paths.{IsFirst}

-- what stands where a list is cut
pub record Cut {A : Type 0} (xs : List A) (n : ℕ) (x : A) (ys : List A) : Type 0 where
  pub inside : n < length xs
  pub item : (d : A) → get_or xs n d ≡ x
  pub rest : drop (suc n) xs ≡ ys

pub cut_at : {A : Type 0} (xs : List A) (n : ℕ) (x : A) (ys : List A) → drop n xs ≡ x ∷ ys → Cut xs n x ys
cut_at [] zero x ys e = absurd (cc)
cut_at [] (suc n) x ys e = absurd (cc)
cut_at (z ∷ xs) zero x ys e = record { inside = omega arith; item = λ d. cc; rest = cc }
cut_at (z ∷ xs) (suc n) x ys e = let c = cut_at xs n x ys e in record { inside = omega (arith, c.inside); item = λ d. c.item d; rest = c.rest }

pub past_end : {A : Type 0} (xs : List A) (n : ℕ) → drop n xs ≡ [] → length xs ≤ n
past_end [] n e = omega arith
past_end (z ∷ xs) zero e = absurd (cc)
past_end (z ∷ xs) (suc n) e = omega (arith, past_end xs n e)

pub get_at : {A : Type 0} (xs : List A) (n : ℕ) (x : A) (ys : List A) → drop n xs ≡ x ∷ ys → slice_get xs n ≡ Some x
get_at xs n x ys e = let c = cut_at xs n x ys e in slice_get-get_or xs n x c.inside ∙ ap Some (c.item x)

pub get_past : {A : Type 0} (xs : List A) (n k : ℕ) → drop n xs ≡ [] → n ≤ k → slice_get xs k ≡ None
get_past [] n k e h = refl
get_past (z ∷ xs) zero k e h = absurd (cc)
get_past (z ∷ xs) (suc n) zero e h = absurd (omega (arith, h))
get_past (z ∷ xs) (suc n) (suc k) e h = get_past xs n k e (omega (arith, h))

-- none of the first numbers has the property
abbrev pub HasNone : (ℕ → Type 0) → ℕ → Type 0
HasNone P n = (k : ℕ) → k < n → P k → ⊥

pub none_more : (P : ℕ → Type 0) (n : ℕ) → HasNone P n → (P n → ⊥) → HasNone P (n + 1)
none_more P n = below_more (λ k. P k → ⊥) n

pub one_first : (P : ℕ → Type 0) (j k : ℕ) → IsFirst P j → IsFirst P k → j ≡ k
one_first P j k a b =
    elim (cases_lt j k) [
      | inl h ↦ absurd (b.before j h a.here)
      | inr h ↦ elim (cases_lt k j) [
        | inl g ↦ absurd (a.before k g b.here)
        | inr g ↦ omega (arith, h, g)
      ]
    ]
