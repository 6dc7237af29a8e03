-- The last line of a list.
use Rattle.std.proofs.Common.{ℕ, ◌≡◌, ◌+◌, ◌-◌, ◌<◌, ◌≤◌, zero, suc, List, [], ◌∷◌, ◌++◌, Some, length, take, drop}
use Rattle.std.proofs.Common.{get_or, arith, ap, sym, refl, ◌∙◌, ◌⊎◌, inl, inr}
use Rattle.std.proofs.lemmas.Bool.{cases_lt}
use Rattle.std.proofs.lemmas.List.{length-take-le, get_or-take, append-nil, drop_more}
use Rattle.std.specs.List.{HoldsAt}
use Rattle.active_lines.specs.declared.item.ActiveLine.{ActiveLine}
use Rattle.active_lines.specs.ActiveLists.{first_of, last_of, BeginsOn}
use Rattle.active_lines.specs.Chunked.{HasLine, IsPlace, chunk_at, lines_of, lines_before, lines_after}
use Rattle.active_lines.proofs.Chunks.{last_is}
use Rattle.active_lines.proofs.Places.{lines_up_to, chunk_read}

pub last_append : (xs ys : List ActiveLine) → HasLine ys → last_of (xs ++ ys) ≡ last_of ys
last_append [] ys h = refl
last_append (l ∷ []) [] h = absurd (omega (arith, h))
last_append (l ∷ []) (m ∷ ys) h = refl
last_append (l ∷ k ∷ xs) ys h = last_append (k ∷ xs) ys h

-- that of the first chunks is that of the last of them
pub last_up_to : (chunks : List (List ActiveLine)) (c : ℕ) → c < length chunks → HasLine (chunk_at chunks c)
    → last_of (lines_of (take (c + 1) chunks)) ≡ last_of (chunk_at chunks c)
last_up_to chunks c inside some = ap last_of (lines_up_to chunks c inside) ∙ last_append (lines_of (take c chunks)) (chunk_at chunks c) some

last_take : (lines : List ActiveLine) (k : ℕ) (d : ActiveLine) → 0 < k → k ≤ length lines → last_of (take k lines) ≡ Some (get_or lines (k - 1) d)
last_take lines k d some inside =
    let n : length (take k lines) ≡ k = length-take-le k lines inside in
    last_is (take k lines) d (omega (arith, n, some))
    ∙ (ap (λ (i : ℕ). Some (get_or (take k lines) (i - 1) d)) n ∙ ap (λ (l : ActiveLine). Some l) (get_or-take k lines (k - 1) d (omega (arith, some))))

pub last_drop : (lines : List ActiveLine) (k : ℕ) → k < length lines → last_of (drop k lines) ≡ last_of lines
last_drop lines zero h = refl
last_drop [] (suc k) h = refl
last_drop (l ∷ []) (suc k) h = absurd (omega (arith, h))
last_drop (l ∷ m ∷ lines) (suc k) h = last_drop (m ∷ lines) k (omega (arith, h))

-- a list begins on the line of its first one
pub begins_on : (lines : List ActiveLine) (l : ActiveLine) → first_of lines ≡ Some l → BeginsOn l.line lines
begins_on [] l e = absurd (cc)
begins_on (k ∷ lines) l e = let same : k ≡ l = cc in ap (λ (m : ActiveLine). m.line) same

-- what is before the last line
pub front_of : List ActiveLine → List ActiveLine
front_of [] = []
front_of (l ∷ []) = []
front_of (l ∷ m ∷ lines) = l ∷ front_of (m ∷ lines)

pub last_split : (lines : List ActiveLine) (l : ActiveLine) → last_of lines ≡ Some l → lines ≡ front_of lines ++ l ∷ []
unfolding front_of
last_split [] l e = absurd (cc)
last_split (k ∷ []) l e = let same : k ≡ l = cc in ap (λ (m : ActiveLine). m ∷ []) same
last_split (k ∷ m ∷ lines) l e = ap (λ (xs : List ActiveLine). k ∷ xs) (last_split (m ∷ lines) l e)

-- ---- the last line before a place

inside_chunks : (chunks : List (List ActiveLine)) (c k : ℕ) → IsPlace chunks c k → 0 < k → (c < length chunks) ⊎ (length chunks ≤ c) → c < length chunks
inside_chunks chunks c k p some (inl less) = less
inside_chunks chunks c k p some (inr le) = let none = p.at_end (omega (arith, le, p.inside)) in absurd (omega (arith, none, some))

at_a_line : (chunks : List (List ActiveLine)) (c k : ℕ) → IsPlace chunks c k → 0 < k → c < length chunks
at_a_line chunks c k p some = inside_chunks chunks c k p some (cases_lt c (length chunks))

take_some : (lines : List ActiveLine) (k : ℕ) → 0 < k → k ≤ length lines → HasLine (take k lines)
take_some lines k some inside = let n : length (take k lines) ≡ k = length-take-le k lines inside in omega (arith, n, some)

pub last_before_line : (chunks : List (List ActiveLine)) (c k : ℕ) → IsPlace chunks c k → 0 < k → (lines : List ActiveLine) (l : ActiveLine)
    → lines ≡ get_or chunks c lines → HoldsAt (λ (m : ActiveLine). l ≡ m) lines (k - 1) → Some l ≡ last_of (lines_before chunks c k)
last_before_line chunks c k p some lines l read is =
    let inside = at_a_line chunks c k p some in
    let less = p.at_line inside in
    let e = chunk_read chunks c lines inside read in
    sym
    (last_append (lines_of (take c chunks)) (take k (chunk_at chunks c)) (take_some (chunk_at chunks c) k some (omega (arith, less)))
    ∙ (last_take (chunk_at chunks c) k l some (omega (arith, less))
    ∙ (ap (λ (xs : List ActiveLine). Some (get_or xs (k - 1) l)) (sym e) ∙ ap (λ (m : ActiveLine). Some m) (sym (is l)))))

pub last_before_start : (chunks : List (List ActiveLine)) (c k : ℕ) → IsPlace chunks c k → k ≡ 0 → 0 < c
    → (lines : List ActiveLine) (l : ActiveLine) → lines ≡ get_or chunks (c - 1) lines → last_of lines ≡ Some l
    → Some l ≡ last_of (lines_before chunks c k)
last_before_start chunks c k p none some lines l read is =
    let inside : c - 1 < length chunks = omega (arith, p.inside, some) in
    let e = chunk_read chunks (c - 1) lines inside read in
    let again : (c - 1) + 1 ≡ c = omega (arith, some) in
    sym
    (ap (λ (n : ℕ). last_of (lines_before chunks c n)) none
    ∙ (ap last_of (append-nil (lines_of (take c chunks)))
    ∙ (ap (λ (n : ℕ). last_of (lines_of (take n chunks))) (sym again)
    ∙ (last_up_to chunks (c - 1) inside (p.full (c - 1) [] inside) ∙ (ap last_of (sym e) ∙ is)))))

pub first_after : (chunks : List (List ActiveLine)) (c k : ℕ) → IsPlace chunks c k → c < length chunks
    → (lines : List ActiveLine) (l : ActiveLine) → lines ≡ get_or chunks c lines → HoldsAt (λ (m : ActiveLine). l ≡ m) lines k
    → Some l ≡ first_of (lines_after chunks c k)
first_after chunks c k p inside lines l read is =
    let e = chunk_read chunks c lines inside read in
    let value = is l ∙ ap (λ (xs : List ActiveLine). get_or xs k l) e in
    ap (λ (m : ActiveLine). Some m) value ∙ sym (ap (λ (xs : List ActiveLine). first_of (xs ++ lines_of (drop (c + 1) chunks)))
    (drop_more (chunk_at chunks c) k l (p.at_line inside)))
