-- Proofs of the laws of chains and of chosen shots as streams. Lemmas alone stand here, no definition.
use Rattle.std.proofs.Common.{◌≡◌, ℕ, zero, suc, ◌+◌, ◌-◌, ◌<◌, ◌≤◌, List, [], ◌∷◌, length, slice_get, Option, Some, None, refl, ap, sym, subst, ◌∙◌, arith}
use Rattle.std.specs.List.{AllZip}
use Rattle.half_grid.specs.Trapezoids.{Trapezoid}
use Rattle.field_output.specs.Chains.{IsChain}
use Rattle.field_output.specs.Meeting.{HasNumber}

-- an item is at a place below the number of items
pub there : {A : Type 0} (xs : List A) (n : ℕ) (x : A) → slice_get xs n ≡ Some x → n < length xs
there [] n x e = cc
there (y ∷ xs) zero x e = omega arith
there (y ∷ xs) (suc n) x e = let rest = there xs n x e in omega (arith, rest)

-- a chain is between its least number and its end
pub chain_low : (next : List ℕ) (low at : ℕ) (ns : List ℕ) → low ≤ length next → IsChain next low at ns → low ≤ at
chain_low next low at [] h c = omega (arith, h, c)
chain_low next low at (n ∷ ns) h c = omega (arith, c.0, c.1)

-- it is one for a lesser least number too
pub chain_weaker : (next : List ℕ) (less low at : ℕ) (ns : List ℕ) → less ≤ low → IsChain next low at ns → IsChain next less at ns
chain_weaker next less low at [] h c = c
chain_weaker next less low at (n ∷ ns) h c = (c.0, omega (arith, h, c.1), c.2)

same_some : {A : Type 0} (x y : A) → Some x ≡ Some y → x ≡ y
same_some x y e = cc

not_both : {A : Type 0} (o : Option A) (x : A) → o ≡ None → o ≡ Some x → ⊥
not_both o x e f = cc

pub one_chain : (next : List ℕ) (a b at : ℕ) (xs ys : List ℕ) → IsChain next a at xs → IsChain next b at ys → xs ≡ ys
one_chain next a b at [] [] p q = refl
one_chain next a b at [] (y ∷ ys) p q = let below = there next y q.2.0 q.2.1 in absurd (omega (arith, p, q.0, below))
one_chain next a b at (x ∷ xs) [] p q = let below = there next x p.2.0 p.2.1 in absurd (omega (arith, q, p.0, below))
one_chain next a b at (x ∷ xs) (y ∷ ys) p q =
    let first : x ≡ y = sym p.0 ∙ q.0 in
    let after : p.2.0 ≡ q.2.0 = same_some _ _ (sym p.2.1 ∙ ap (slice_get next) first ∙ q.2.1) in
    let rest = one_chain next (suc x) (suc y) p.2.0 xs ys p.2.2 (subst (λ (m : ℕ). IsChain next (suc y) m ys) (sym after) q.2.2) in
    cc

pub chain_length : (next : List ℕ) (low at : ℕ) (ns : List ℕ) → IsChain next low at ns → length ns + at ≤ length next
chain_length next low at [] c = omega (arith, c)
chain_length next low at (n ∷ ns) c =
    let below = there next n c.2.0 c.2.1 in
    let on = chain_low next (suc n) c.2.0 ns (omega (arith, below)) c.2.2 in
    let rest = chain_length next (suc n) c.2.0 ns c.2.2 in
    omega (arith, c.0, on, rest)

pub Chain-one_list : (next : List ℕ) (at : ℕ) (xs ys : List ℕ) → IsChain next 0 at xs → IsChain next 0 at ys → xs ≡ ys
Chain-one_list next at xs ys p q = one_chain next 0 0 at xs ys p q

pub Chain-no_longer : (next : List ℕ) (at : ℕ) (xs : List ℕ) → IsChain next 0 at xs → length xs ≤ length next - at
Chain-no_longer next at xs p = omega (arith, chain_length next 0 at xs p)

pub Chain-bounded : (n at most : ℕ) → n < most → n - at ≤ most
Chain-bounded n at most h = omega (arith, h)

-- one call of the stream
pub chain_over : (next : List ℕ) (at : ℕ) (items : List ℕ) → slice_get next at ≡ None → IsChain next 0 at items → (items ≡ []) × IsChain next 0 at []
chain_over next at [] none c = (refl, c)
chain_over next at (n ∷ ns) none c = absurd (not_both (slice_get next n) c.2.0 (ap (slice_get next) (sym c.0) ∙ none) c.2.1)

pub chain_step : (next : List ℕ) (at after : ℕ) (items : List ℕ) → slice_get next at ≡ Some after → IsChain next 0 at items
    → (others : List ℕ) × (items ≡ at ∷ others) × IsChain next 0 after others
chain_step next at after [] some c = let below = there next at after some in absurd (omega (arith, c, below))
chain_step next at after (n ∷ ns) some c =
    let same : c.2.0 ≡ after = same_some _ _ (sym c.2.1 ∙ ap (slice_get next) (sym c.0) ∙ some) in
    (ns, ap (λ (m : ℕ). m ∷ ns) (sym c.0), chain_weaker next 0 (suc n) after ns (omega arith) (subst (λ (m : ℕ). IsChain next (suc n) m ns) same c.2.2))

pub chain_size : (next : List ℕ) (at after : ℕ) (items : List ℕ) → slice_get next at ≡ Some after → IsChain next 0 at items
    → length next - after + 1 ≤ length next - at
chain_size next at after [] some c = let below = there next at after some in absurd (omega (arith, c, below))
chain_size next at after (n ∷ ns) some c =
    let same : c.2.0 ≡ after = same_some _ _ (sym c.2.1 ∙ ap (slice_get next) (sym c.0) ∙ some) in
    let below = there next at after some in
    let on = chain_low next (suc n) c.2.0 ns (omega (arith, below, c.0)) c.2.2 in
    let on_at : suc at ≤ after = omega (arith, on, same, c.0) in
    omega (arith, below, on_at)

-- ---- chosen shots

pub Chosen-one_list : (shots : List Trapezoid) (ns : List ℕ) (xs ys : List Trapezoid) → AllZip (HasNumber shots) ns xs → AllZip
    (HasNumber shots) ns ys → xs ≡ ys
Chosen-one_list shots [] [] [] p q = refl
Chosen-one_list shots [] (x ∷ xs) ys p q = absurd p
Chosen-one_list shots [] [] (y ∷ ys) p q = absurd q
Chosen-one_list shots (n ∷ ns) [] ys p q = absurd p
Chosen-one_list shots (n ∷ ns) (x ∷ xs) [] p q = absurd q
Chosen-one_list shots (n ∷ ns) (x ∷ xs) (y ∷ ys) p q =
    let first : x ≡ y = same_some _ _ (sym p.0 ∙ q.0) in
    let rest = Chosen-one_list shots ns xs ys p.1 q.1 in
    cc

pub Chosen-no_longer : (shots : List Trapezoid) (ns : List ℕ) (xs : List Trapezoid) → AllZip (HasNumber shots) ns xs → length xs ≤ length ns
Chosen-no_longer shots [] [] p = omega arith
Chosen-no_longer shots [] (x ∷ xs) p = absurd p
Chosen-no_longer shots (n ∷ ns) [] p = omega arith
Chosen-no_longer shots (n ∷ ns) (x ∷ xs) p = let rest = Chosen-no_longer shots ns xs p.1 in omega (arith, rest)

pub Chosen-bounded : (n most : ℕ) → n < most → n ≤ most
Chosen-bounded n most h = omega (arith, h)
