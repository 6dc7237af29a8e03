-- What holds of the statements of accepted lines, one by one.
use Rattle.std.proofs.Common.{◌≡◌, ℕ, zero, suc, ◌+◌, ◌<◌, ◌≤◌, List, [], ◌∷◌, ◌++◌, length, get_or, take, drop, Some, None, sym, subst, arith, add-one}
use Rattle.std.proofs.lemmas.List.{take_all, append-nil, drop_more}
use Rattle.std.proofs.lemmas.Option.{slice_get-get_or}
use Rattle.deck_text.specs.Statements.{Statement, Reading, Passed, Refused, Says, Said}
use Rattle.deck_text.specs.Forms.{reading}
use Rattle.deck_text.specs.Rules.{broken_rule}
use Rattle.deck_text.specs.Decks.{said, said_first, saids_from, refusal, refusal_after, AreAccepted}
use Rattle.deck_text.specs.declared.refusal.DeckBad.{DeckBad}
use Rattle.deck_text.proofs.Steps.{next_saids}

-- a fact that a kept statement keeps
abbrev pub Stays : (layout deck : List ℕ) → (List Said → Type 0) → Type 0
Stays layout deck P = (before : List Said) (n : ℕ) (s : Statement) → P before → broken_rule layout deck before n s ≡ None → P (before ++ (said n s ∷ []))

none_some : (bad : DeckBad) → Some bad ≡ None → ⊥
none_some bad e = let clash : ⊥ = cc in clash

one_more : (layout deck : List ℕ) (P : List Said → Type 0) → Stays layout deck P
    → (before : List Said) (n : ℕ) (r : Reading) → P before → refusal layout deck before n r ≡ None
    → P (before ++ said_first n r [])
one_more layout deck P stays before n Passed h e = subst P (sym (append-nil before)) h
one_more layout deck P stays before n (Refused column) h e = absurd (none_some _ e)
one_more layout deck P stays before n (Says s) h e = stays before n s h e

at_start : (ls : List (List ℕ)) (P : List Said → Type 0) → P [] → P (saids_from 1 (take zero ls))
unfolding saids_from
at_start ls P h = h

up_to : (layout deck : List ℕ) (ls : List (List ℕ)) (P : List Said → Type 0) → P [] → Stays layout deck P → AreAccepted layout deck ls (length ls)
    → (n : ℕ) → n ≤ length ls → P (saids_from 1 (take n ls))
up_to layout deck ls P start stays h zero le = at_start ls P start
up_to layout deck ls P start stays h (suc n) le =
    let lt : n < length ls = omega arith in
    let line : List ℕ = get_or ls n [] in
    let left : drop n ls ≡ get_or ls n [] ∷ drop (n + 1) ls = drop_more ls n [] lt in
    let kept : refusal_after layout deck ls n (get_or ls n []) ≡ None = h n (get_or ls n []) lt (slice_get-get_or ls n [] lt) in
    let more = one_more layout deck P stays (saids_from 1 (take n ls)) (n + 1) (reading (get_or ls n []))
    (up_to layout deck ls P start stays h n (omega arith)) kept in
    subst (λ (k : ℕ). P (saids_from 1 (take k ls))) (add-one n) (subst P (sym (next_saids ls n (get_or ls n []) (drop (n + 1) ls) left)) more)

-- a fact of no statements that each kept one keeps holds of all
pub of_all : (layout deck : List ℕ) (ls : List (List ℕ)) (P : List Said → Type 0) → P [] → Stays layout deck P
    → AreAccepted layout deck ls (length ls) → P (saids_from 1 ls)
of_all layout deck ls P start stays h =
    let whole : take (length ls) ls ≡ ls = take_all (length ls) ls (omega arith) in
    subst (λ (xs : List (List ℕ)). P (saids_from 1 xs)) whole (up_to layout deck ls P start stays h (length ls) (omega arith))
