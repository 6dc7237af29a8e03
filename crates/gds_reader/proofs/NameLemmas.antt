-- The bytes of a name without the NULs at their end.
use Rattle.std.proofs.Common.{◌≡◌, ℕ, zero, suc, ◌-◌, ◌<◌, ◌≤◌, cond, nat_eq, true, false, List, [], ◌∷◌, ◌++◌, length}
use Rattle.std.proofs.Common.{take, get_or, refl, sym, ap, subst, ◌∙◌, arith}
use Rattle.std.specs.Prelude.{◌≢◌}
use Rattle.std.proofs.lemmas.Bool.{eqb-true}
use Rattle.gds_reader.specs.Values.{before_nuls, without_nuls}

nul_last : (xs : List ℕ) → without_nuls (xs ++ 0 ∷ []) ≡ without_nuls xs
nul_last [] = refl
nul_last (x ∷ xs) = ap (before_nuls x) (nul_last xs)

before_kept : (x : ℕ) (ys zs : List ℕ) (z : ℕ) → ys ≡ zs ++ z ∷ [] → before_nuls x ys ≡ x ∷ ys
before_kept x ys [] z e = rw e refl
before_kept x ys (w ∷ zs) z e = rw e refl

last_kept : (xs : List ℕ) (x : ℕ) → x ≢ 0 → without_nuls (xs ++ x ∷ []) ≡ xs ++ x ∷ []
last_kept [] x some =
    elim (nat_eq x 0) as (λ v. nat_eq x 0 ≡ v → cond v [] (x ∷ []) ≡ x ∷ []) [
      | true ↦ λ e. absurd (some (eqb-true x 0 e))
      | false ↦ λ e. refl
    ] refl
last_kept (y ∷ xs) x some = ap (before_nuls y) (last_kept xs x some) ∙ before_kept y (xs ++ x ∷ []) xs x refl

-- the last of the first n items
take_last : (n : ℕ) (xs : List ℕ) → n < length xs → take (suc n) xs ≡ take n xs ++ get_or xs n 0 ∷ []
take_last n [] h = absurd (omega arith)
take_last zero (x ∷ xs) h = refl
take_last (suc n) (x ∷ xs) h = ap (λ ys. x ∷ ys) (take_last n xs (omega arith))

-- a NUL at the end changes nothing
pub nul_dropped : (end : ℕ) (xs : List ℕ) → 0 < end → end ≤ length xs → get_or xs (end - 1) 0 ≡ 0
    → without_nuls (take (end - 1) xs) ≡ without_nuls (take end xs)
nul_dropped zero xs some within nul = absurd (omega arith)
nul_dropped (suc n) xs some within nul =
    let less : suc n - 1 ≡ n = omega arith in
    rw less (sym (ap without_nuls
    (take_last n xs (omega arith) ∙ ap (λ x. take n xs ++ x ∷ []) (subst (λ k. get_or xs k 0 ≡ 0) less nul))
    ∙ nul_last (take n xs)))

-- nothing is dropped after a byte that isn't a NUL
pub nothing_dropped : (end : ℕ) (xs : List ℕ) → 0 < end → end ≤ length xs → get_or xs (end - 1) 0 ≢ 0 → take end xs ≡ without_nuls (take end xs)
nothing_dropped zero xs some within kept = absurd (omega arith)
nothing_dropped (suc n) xs some within kept =
    let less : suc n - 1 ≡ n = omega arith in
    let last = take_last n xs (omega arith) in
    sym (ap without_nuls last ∙ last_kept (take n xs) (get_or xs n 0) (subst (λ k. get_or xs k 0 ≢ 0) less kept) ∙ sym last)
