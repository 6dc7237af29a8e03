-- Where the spelling of a number ends: in one place at most, and nothing that follows it changes that.
use Rattle.std.proofs.Common.{◌≡◌, ℕ, zero, suc, ◌<◌, ◌≤◌, List, [], ◌∷◌, ◌++◌, length, take, arith, inl, inr, ap}
use Rattle.std.proofs.lemmas.List.{length-take-le}
use Rattle.oas_lex.specs.Numbers.{GoesOn, IsWholeNumber, value_of}

-- bytes that all go on don't begin with a whole spelling
pub whole_not_on : (xs : List ℕ) (m : ℕ) → IsWholeNumber (take m xs) → GoesOn xs → ⊥
whole_not_on [] zero h g = h
whole_not_on [] (suc m) h g = h
whole_not_on (x ∷ xs) zero h g = h
whole_not_on (x ∷ xs) (suc m) h g = elim h [ inl last ↦ omega arith | inr next ↦ whole_not_on xs m next.1 g.1 ]

-- more groups make no smaller number
pub value_take-le : (xs : List ℕ) (m : ℕ) → value_of (take m xs) ≤ value_of xs
value_take-le [] zero = omega arith
value_take-le [] (suc m) = omega arith
value_take-le (x ∷ xs) zero = omega arith
value_take-le (x ∷ xs) (suc m) = omega (arith, value_take-le xs m)

-- a whole spelling reaches past all bytes that go on
pub whole_reaches : (xs : List ℕ) (m k : ℕ) → IsWholeNumber (take m xs) → GoesOn (take k xs) → value_of (take (suc k) xs) ≤ value_of (take m xs)
whole_reaches [] zero k h g = absurd h
whole_reaches [] (suc m) k h g = absurd h
whole_reaches (x ∷ xs) zero k h g = absurd h
whole_reaches (x ∷ xs) (suc m) zero h g = omega arith
whole_reaches (x ∷ xs) (suc m) (suc k) h g =
    elim h [ inl last ↦ absurd (omega arith) | inr next ↦ omega (arith, whole_reaches xs m k next.1 g.1) ]

-- a whole spelling has a byte
pub whole_some : (xs : List ℕ) (m : ℕ) → IsWholeNumber (take m xs) → 0 < m
whole_some xs zero h = absurd h
whole_some xs (suc m) h = omega arith

-- one whole spelling at most stands at a place
pub one_whole : (xs : List ℕ) (m k : ℕ) → m ≤ length xs → k ≤ length xs → IsWholeNumber (take m xs) → IsWholeNumber (take k xs) → m ≡ k
one_whole [] zero k a b h g = absurd h
one_whole [] (suc m) k a b h g = absurd h
one_whole (x ∷ xs) zero k a b h g = absurd h
one_whole (x ∷ xs) (suc m) zero a b h g = absurd g
one_whole (x ∷ xs) (suc m) (suc k) a b h g =
    let shorter : m ≤ length xs = omega arith in
    let other : k ≤ length xs = omega arith in
    elim h [
      | inl last ↦ elim g [
        | inl end ↦ let first : length (take m xs) ≡ 0 = ap length last.1 in
            let second : length (take k xs) ≡ 0 = ap length end.1 in
            omega (arith, length-take-le m xs shorter, length-take-le k xs other)
        | inr next ↦ absurd (omega arith)
      ]
      | inr next ↦ elim g [ inl end ↦ absurd (omega arith) | inr more ↦ ap suc (one_whole xs m k shorter other next.1 more.1) ]
    ]

-- no whole spelling begins another
pub none_begins : (a b x y : List ℕ) → IsWholeNumber a → IsWholeNumber b → a ++ x ≡ b ++ y → (a ≡ b) × (x ≡ y)
none_begins [] b x y h g e = absurd h
none_begins (p ∷ a) [] x y h g e = absurd g
none_begins (p ∷ a) (q ∷ b) x y h g e =
    let same : p ≡ q = cc in
    let rest : a ++ x ≡ b ++ y = cc in
    elim h [
      | inl last ↦ elim g [
        | inl end ↦ let equal : a ≡ b = cc in
            let left : a ++ x ≡ x = ap (λ t. t ++ x) last.1 in
            let right : b ++ y ≡ y = ap (λ t. t ++ y) end.1 in
            (cc, cc)
        | inr next ↦ absurd (omega arith)
      ]
      | inr next ↦ elim g [
        | inl end ↦ absurd (omega arith)
        | inr more ↦ let both : (a ≡ b) × (x ≡ y) = none_begins a b x y next.1 more.1 rest in (cc, both.1)
      ]
    ]
