-- The lines of chunks before and after a place.
use Rattle.std.proofs.Common.{ℕ, ◌≡◌, ◌+◌, ◌<◌, ◌≤◌, zero, suc, List, [], ◌∷◌, ◌++◌, All, length, take, drop, get_or}
use Rattle.std.proofs.Common.{set, arith, ap, subst, sym, refl, ◌∙◌, add-one, append_assoc}
use Rattle.std.proofs.lemmas.List.{take-append-drop, take_more, drop_more, append-nil, nil_from_length, length-take-le}
use Rattle.std.proofs.lemmas.List.{get_or_read, take_at, drop_at, length-set}
use Rattle.std.proofs.lemmas.List.Edits.{length-remove}
use Rattle.std.proofs.lemmas.List.Elements.{All-append, All-cons, All-set}
use Rattle.std.proofs.lemmas.List.Concat.{flat_map-append}
use Rattle.std.specs.List.{remove}
use Rattle.active_lines.specs.declared.item.ActiveLine.{ActiveLine}
use Rattle.active_lines.specs.Chunked.{lines_of, chunk_at, lines_before, lines_after, HasLine, IsPlace}

-- ---- chunks one by one

pub lines_up_to : (chunks : List (List ActiveLine)) (c : ℕ) → c < length chunks → lines_of (take (c + 1) chunks) ≡ lines_of (take c chunks) ++ chunk_at chunks c
lines_up_to chunks c h =
    ap lines_of (take_more chunks c [] h) ∙ (flat_map-append (λ (lines : List ActiveLine). lines) (take c chunks) (chunk_at chunks c ∷ [])
    ∙ ap (λ (lines : List ActiveLine). lines_of (take c chunks) ++ lines) (append-nil (chunk_at chunks c)))

pub lines_from : (chunks : List (List ActiveLine)) (c : ℕ) → c < length chunks → lines_of (drop c chunks) ≡ chunk_at chunks c ++ lines_of (drop (c + 1) chunks)
lines_from chunks c h = ap lines_of (drop_more chunks c [] h)

pub after_start : (chunks : List (List ActiveLine)) (c : ℕ) → lines_after chunks c 0 ≡ lines_of (drop c chunks)
after_start [] c = rw add-one (nothing c)
  where
    nothing : (c : ℕ) → lines_of (drop {A = List ActiveLine} (suc c) []) ≡ lines_of (drop {A = List ActiveLine} c [])
    nothing zero = refl
    nothing (suc c) = refl
after_start (lines ∷ chunks) zero = refl
after_start (lines ∷ chunks) (suc c) = rw add-one (rw add-one at (after_start chunks c))

-- all lines, cut at a place
pub whole : (chunks : List (List ActiveLine)) (c k : ℕ) → lines_before chunks c k ++ lines_after chunks c k ≡ lines_of chunks
whole chunks c k =
    append_assoc (lines_of (take c chunks)) (take k (chunk_at chunks c)) (lines_after chunks c k)
    ∙ (ap (λ (lines : List ActiveLine). lines_of (take c chunks) ++ lines)
    (sym (append_assoc (take k (chunk_at chunks c)) (drop k (chunk_at chunks c)) (lines_of (drop (c + 1) chunks)))
    ∙ (ap (λ (lines : List ActiveLine). lines ++ lines_of (drop (c + 1) chunks)) (take-append-drop k (chunk_at chunks c)) ∙ after_start chunks c))
    ∙ (sym (flat_map-append (λ (lines : List ActiveLine). lines) (take c chunks) (drop c chunks)) ∙ ap lines_of (take-append-drop c chunks)))

-- ---- chunks with lines

pub full_from : (P : List ActiveLine → Type 0) (chunks : List (List ActiveLine)) (c : ℕ) → c < length chunks
    → All P (take c chunks) → P (chunk_at chunks c) → All P (drop (c + 1) chunks) → All P chunks
full_from P chunks c h left here right =
    let from : All P (drop c chunks) = subst (All P) (sym (drop_more chunks c [] h)) (All-cons P (chunk_at chunks c) (drop (c + 1) chunks) here right) in
    subst (All P) (take-append-drop c chunks) (All-append P (take c chunks) (drop c chunks) left from)

pub chunk_full : (chunks : List (List ActiveLine)) (c : ℕ) → All HasLine chunks → c < length chunks → HasLine (chunk_at chunks c)
chunk_full chunks c full h = full c [] h

-- a place before the first line of a chunk, or at the end
pub place_at_start : (chunks : List (List ActiveLine)) (c : ℕ) → All HasLine chunks → c ≤ length chunks → IsPlace chunks c 0
place_at_start chunks c full h = record { full = full; inside = h; at_line = λ less. full c [] less; at_end = λ e. refl }

pub place_in_chunk : (chunks : List (List ActiveLine)) (c k : ℕ) → All HasLine chunks → c < length chunks → k < length (chunk_at chunks c) → IsPlace chunks c k
place_in_chunk chunks c k full h less = record { full = full; inside = omega (arith, h); at_line = λ _. less; at_end = λ e. absurd (omega (arith, h, e)) }

-- ---- a chunk with other lines, and as many

length_at : (chunks : List (List ActiveLine)) (b c : ℕ) (new : List ActiveLine) → length new ≡ length (chunk_at chunks b)
    → length (chunk_at (set chunks b new) c) ≡ length (chunk_at chunks c)
length_at [] zero c new e = refl
length_at [] (suc b) c new e = refl
length_at (lines ∷ chunks) zero zero new e = e
length_at (lines ∷ chunks) zero (suc c) new e = refl
length_at (lines ∷ chunks) (suc b) zero new e = refl
length_at (lines ∷ chunks) (suc b) (suc c) new e = length_at chunks b c new e

pub place_set : (chunks : List (List ActiveLine)) (c k b : ℕ) (new : List ActiveLine) → IsPlace chunks c k → HasLine new
    → length new ≡ length (chunk_at chunks b) → IsPlace (set chunks b new) c k
place_set chunks c k b new p some e =
    let size = length-set chunks b new in
    record {
      full = All-set HasLine chunks b new some p.full;
      inside = omega (arith, p.inside, size);
      at_line = λ less. let line = p.at_line (omega (arith, less, size)) in omega (arith, line, length_at chunks b c new e);
      at_end = λ f. p.at_end (omega (arith, f, size));
    }

-- ---- an empty chunk taken out

full_without : (chunks : List (List ActiveLine)) (c : ℕ) → All HasLine (take c chunks) → All HasLine (drop (c + 1) chunks) → All HasLine (remove chunks c)
full_without chunks c left right = All-append HasLine (take c chunks) (drop (suc c) chunks) left (rw add-one at right)

pub place_without : (chunks : List (List ActiveLine)) (c : ℕ) → c < length chunks → All HasLine (take c chunks)
    → All HasLine (drop (c + 1) chunks) → IsPlace (remove chunks c) c 0
place_without chunks c h left right = place_at_start (remove chunks c) c (full_without chunks c left right) (omega (arith, h, length-remove chunks c h))

pub after_without : (chunks : List (List ActiveLine)) (c k : ℕ) → c < length chunks → chunk_at chunks c ≡ []
    → lines_after (remove chunks c) c 0 ≡ lines_after chunks c k
after_without chunks c k h e =
    let cut : drop c (remove chunks c) ≡ drop (suc c) chunks = drop_at (take c chunks) (drop (suc c) chunks) c (length-take-le c chunks (omega (arith, h))) in
    after_start (remove chunks c) c ∙ (ap lines_of cut ∙ rw (e, add-one) (none k))
  where
    none : (k : ℕ) → lines_of (drop (suc c) chunks) ≡ drop {A = ActiveLine} k [] ++ lines_of (drop (suc c) chunks)
    none zero = refl
    none (suc k) = refl

pub front_without : (chunks : List (List ActiveLine)) (c : ℕ) → c < length chunks → take c (remove chunks c) ≡ take c chunks
front_without chunks c h = take_at (take c chunks) (drop (suc c) chunks) c (length-take-le c chunks (omega (arith, h)))

-- the chunk that is read
pub chunk_read : (chunks : List (List ActiveLine)) (c : ℕ) (lines : List ActiveLine) → c < length chunks
    → lines ≡ get_or chunks c lines → lines ≡ chunk_at chunks c
chunk_read chunks c lines h e = get_or_read chunks c lines h e []

pub nil_of : (lines : List ActiveLine) → length lines ≡ 0 → lines ≡ []
nil_of lines h = nil_from_length lines h
