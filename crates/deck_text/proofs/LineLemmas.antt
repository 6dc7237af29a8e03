-- The first line of bytes, and the others.
use Rattle.std.proofs.Common.{◌≡◌, ◌≢◌, ◌⊎◌, inl, inr, ℕ, suc, ◌+◌, ◌-◌, ◌<◌, ◌≤◌, Bool, true, false, ◌&&◌, cond, eqb}
use Rattle.std.proofs.Common.{List, [], ◌∷◌, ◌++◌, length, get_or, take, drop, refl, sym, ap, ◌∙◌, arith}
use Rattle.std.proofs.lemmas.Bool.Decides.{nat_tests}
use Rattle.std.proofs.lemmas.List.{get_or-take, get_or-drop, length-take, length-drop, drop_more, drop_all, take_all}
use Rattle.std.proofs.lemmas.List.Folds.{drop_split}
use Rattle.deck_text.specs.Lines.{onto, lines_of}

-- bytes without LF
abbrev pub IsOneLine : List ℕ → Type 0
IsOneLine t = (k : ℕ) → k < length t → get_or t k 0 ≢ 10

not_end : (b : ℕ) → b ≢ 10 → eqb b 10 ≡ false
not_end b h = grind (arith, nat_tests)

and_false : (x : Bool) → (x && false) ≡ false
and_false true = refl
and_false false = refl

head_of : (b : ℕ) (t : List ℕ) → IsOneLine (b ∷ t) → eqb b 10 ≡ false
head_of b t h = not_end b (h 0 (omega arith))

tail_of : (b : ℕ) (t : List ℕ) → IsOneLine (b ∷ t) → IsOneLine t
tail_of b t h k lt = h (suc k) (omega arith)

-- the last line, which lacks LF, is as it stands
pub last_line : (t : List ℕ) → 0 < length t → IsOneLine t → lines_of t ≡ t ∷ []
unfolding lines_of
last_line [] some h = absurd (omega arith)
last_line (b ∷ []) some h = rw (head_of b [] h, and_false (eqb b 13)) refl
last_line (b ∷ c ∷ t) some h =
    let rest = last_line (c ∷ t) (omega arith) (tail_of b (c ∷ t) h) in
    let next = head_of c t (tail_of b (c ∷ t) h) in
    rw (head_of b (c ∷ t) h) (
    ap (λ (x : Bool). cond (eqb b 13 && x) (lines_of (c ∷ t)) (onto b (lines_of (c ∷ t)))) next
    ∙ (ap (λ (x : Bool). cond x (lines_of (c ∷ t)) (onto b (lines_of (c ∷ t)))) (and_false (eqb b 13))
    ∙ ap (λ (ls : List (List ℕ)). onto b ls) rest))

-- without the one CR at the end
abbrev pub stripped : List ℕ → List ℕ
stripped [] = []
stripped (b ∷ []) = cond (eqb b 13) [] (b ∷ [])
stripped (b ∷ c ∷ t) = b ∷ stripped (c ∷ t)

one_byte : (b : ℕ) (x : Bool) (ls : List (List ℕ)) → cond (x && true) ([] ∷ ls) ((b ∷ []) ∷ ls) ≡ cond x [] (b ∷ []) ∷ ls
one_byte b true ls = refl
one_byte b false ls = refl

-- a line that ends with LF
pub ended_line : (t rest : List ℕ) → IsOneLine t → lines_of (t ++ (10 ∷ rest)) ≡ stripped t ∷ lines_of rest
unfolding lines_of
ended_line [] rest h = refl
ended_line (b ∷ []) rest h = rw (head_of b [] h) (one_byte b (eqb b 13) (lines_of rest))
ended_line (b ∷ c ∷ t) rest h =
    let later = ended_line (c ∷ t) rest (tail_of b (c ∷ t) h) in
    let next = head_of c t (tail_of b (c ∷ t) h) in
    let more : List ℕ = c ∷ (t ++ (10 ∷ rest)) in
    rw (head_of b (c ∷ t) h) (
    ap (λ (x : Bool). cond (eqb b 13 && x) (lines_of more) (onto b (lines_of more))) next
    ∙ (ap (λ (x : Bool). cond x (lines_of more) (onto b (lines_of more))) (and_false (eqb b 13))
    ∙ ap (λ (ls : List (List ℕ)). onto b ls) later))

stripped_return : (x : List ℕ) → stripped (x ++ (13 ∷ [])) ≡ x
stripped_return [] = refl
stripped_return (b ∷ []) = refl
stripped_return (b ∷ c ∷ x) = ap (λ (y : List ℕ). b ∷ y) (stripped_return (c ∷ x))

not_return : (b : ℕ) → ((front : List ℕ) → b ∷ [] ≢ front ++ (13 ∷ [])) → eqb b 13 ≡ false
not_return b h =
    let ne : b ≢ 13 = λ e. h [] (ap (λ (x : ℕ). x ∷ []) e) in
    grind (arith, nat_tests)

stripped_other : (t : List ℕ) → ((front : List ℕ) → t ≢ front ++ (13 ∷ [])) → stripped t ≡ t
stripped_other [] h = refl
stripped_other (b ∷ []) h = rw (not_return b h) refl
stripped_other (b ∷ c ∷ t) h = ap (λ (y : List ℕ). b ∷ y) (stripped_other (c ∷ t) (λ front e. h (b ∷ front) (ap (λ (y : List ℕ). b ∷ y) e)))

pub stripped_is : (t x : List ℕ) → (t ≡ x ++ (13 ∷ [])) ⊎ ((x ≡ t) × ((front : List ℕ) → t ≢ front ++ (13 ∷ []))) → stripped t ≡ x
stripped_is t x (inl e) = ap stripped e ∙ stripped_return x
stripped_is t x (inr h) = stripped_other t h.1 ∙ sym h.0

-- no LF from one offset up to another
pub one_line : (bytes : List ℕ) (at end : ℕ) → ((k : ℕ) → at ≤ k → k < end → get_or bytes k 0 ≢ 10) → IsOneLine (take (end - at) (drop at bytes))
one_line bytes at end h k lt =
    let below : k < end - at = omega (arith, length-take (end - at) (drop at bytes)) in
    let here : get_or bytes (at + k) 0 ≢ 10 = h (at + k) (omega arith) (omega arith) in
    rw (get_or-take (end - at) (drop at bytes) k 0 below, get_or-drop at bytes k 0) here

pub line_last : (bytes : List ℕ) (at end : ℕ) → at < length bytes → end ≡ length bytes → ((k : ℕ) → at ≤ k → k < end → get_or bytes k 0 ≢ 10)
    → lines_of (drop at bytes) ≡ take (length bytes - at) (drop at bytes) ∷ lines_of (drop end bytes)
unfolding lines_of
line_last bytes at end lt e h =
    let one = one_line bytes at end h in
    let all : take (end - at) (drop at bytes) ≡ drop at bytes = take_all (end - at) (drop at bytes) (omega (arith, length-drop at bytes)) in
    let same : take (length bytes - at) (drop at bytes) ≡ drop at bytes = take_all (length bytes - at) (drop at bytes) (omega (arith, length-drop at bytes)) in
    let none : drop end bytes ≡ [] = drop_all end bytes (omega arith) in
    let whole : lines_of (drop at bytes) ≡ drop at bytes ∷ [] = last_line (drop at bytes) (omega (arith, length-drop at bytes)) (rw all at one) in
    rw (same, none) whole

pub line_first : (bytes x : List ℕ) (at end : ℕ) → at ≤ end → end < length bytes → get_or bytes end 0 ≡ 10
    → ((k : ℕ) → at ≤ k → k < end → get_or bytes k 0 ≢ 10)
    → (take (end - at) (drop at bytes) ≡ x ++ (13 ∷ []))
    ⊎ ((x ≡ take (end - at) (drop at bytes))
    × ((front : List ℕ) → take (end - at) (drop at bytes) ≢ front ++ (13 ∷ [])))
    → lines_of (drop at bytes) ≡ x ∷ lines_of (drop (end + 1) bytes)
line_first bytes x at end le lt stop h s =
    let t : List ℕ = take (end - at) (drop at bytes) in
    let rest : drop end bytes ≡ 10 ∷ drop (end + 1) bytes = drop_more bytes end 0 lt ∙ ap (λ (b : ℕ). b ∷ drop (end + 1) bytes) stop in
    let parts : drop at bytes ≡ take (end - at) (drop at bytes) ++ (10 ∷ drop (end + 1) bytes) =
    drop_split bytes at end le ∙ ap (λ (r : List ℕ). take (end - at) (drop at bytes) ++ r) rest in
    ap lines_of parts ∙ (ended_line (take (end - at) (drop at bytes)) (drop (end + 1) bytes) (one_line bytes at end h)
    ∙ ap (λ (y : List ℕ). y ∷ lines_of (drop (end + 1) bytes)) (stripped_is (take (end - at) (drop at bytes)) x s))
