-- The pairs of two lists, one after another.
use Rattle.std.proofs.Common.{◌≡◌, ℕ, zero, suc, ◌<◌, ◌≤◌, ◌+◌, List, [], ◌∷◌, ◌++◌, length, take, get_or, refl, arith, ap, ◌∙◌}
use Rattle.std.proofs.lemmas.List.{take_more}
use Rattle.std.proofs.lemmas.Slice.Zip.{length-zip}
use Rattle.std.specs.List.{zip}

zip_at : {A B : Type 0} (xs : List A) (ys : List B) (i : ℕ) (x : A) (y : B) → i < length xs → i < length ys
    → get_or (zip xs ys) i (x, y) ≡ (get_or xs i x, get_or ys i y)
zip_at [] ys i x y few fewer = absurd (omega (arith, few))
zip_at (a ∷ xs) [] i x y few fewer = absurd (omega (arith, fewer))
zip_at (a ∷ xs) (b ∷ ys) zero x y few fewer = refl
zip_at (a ∷ xs) (b ∷ ys) (suc i) x y few fewer = zip_at xs ys i x y (omega (arith, few)) (omega (arith, fewer))

-- one more pair
pub zip_more : {A B : Type 0} (xs : List A) (ys : List B) (i : ℕ) (x : A) (y d : B) → i < length xs
    → length xs ≡ length ys → x ≡ get_or xs i x → y ≡ get_or ys i d
    → take (i + 1) (zip xs ys) ≡ take i (zip xs ys) ++ (x, y) ∷ []
zip_more xs ys i x y d few same ex ey =
    take_more (zip xs ys) i (x, d) (omega (arith, few, same, length-zip xs ys))
    ∙ ap (λ p. take i (zip xs ys) ++ p ∷ []) (zip_at xs ys i x d few (omega (arith, few, same)) ∙ rw (← ex, ← ey) refl)

-- all pairs
pub zip_all : {A B : Type 0} (xs : List A) (ys : List B) (i : ℕ) → length xs ≤ i → take i (zip xs ys) ≡ zip xs ys
zip_all [] ys zero few = refl
zip_all [] ys (suc i) few = refl
zip_all (a ∷ xs) [] zero few = refl
zip_all (a ∷ xs) [] (suc i) few = refl
zip_all (a ∷ xs) (b ∷ ys) zero few = absurd (omega (arith, few))
zip_all (a ∷ xs) (b ∷ ys) (suc i) few = ap (λ r. (a, b) ∷ r) (zip_all xs ys i (omega (arith, few)))
