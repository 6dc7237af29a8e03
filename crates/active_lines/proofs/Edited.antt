-- The lines before and after a place, where one chunk has changed.
use Rattle.std.proofs.Common.{ℕ, ◌≡◌, ◌+◌, ◌-◌, ◌<◌, ◌≤◌, zero, suc, List, [], ◌∷◌, ◌++◌, All, length, take, drop}
use Rattle.std.proofs.Common.{get_or, set, arith, ap, subst, sym, refl, ◌∙◌, add-one, append_assoc, length-append}
use Rattle.std.proofs.lemmas.List.{drop_more, length-take-le, take_all, take-take, take-append-le, take-set}
use Rattle.std.proofs.lemmas.List.{drop-set-lt, get_or-set_same, length-set, take_at, drop_at, get_or_at, drop-drop}
use Rattle.std.proofs.lemmas.List.Edits.{insert_end, length-insert}
use Rattle.std.proofs.lemmas.List.Elements.{All-append, All-cons, All-take, All-drop, All-set}
use Rattle.std.specs.List.{insert, remove, HoldsAt}
use Rattle.active_lines.specs.declared.item.ActiveLine.{ActiveLine}
use Rattle.active_lines.specs.Chunked.{lines_of, chunk_at, lines_before, lines_after, HasLine, IsPlace}
use Rattle.active_lines.proofs.Places.{chunk_read, lines_up_to, place_in_chunk}

-- ---- one line put or taken

pub take_inserted : (old : List ActiveLine) (k : ℕ) (l : ActiveLine) → take (suc k) (insert old k l) ≡ take k old ++ l ∷ []
take_inserted old zero l = refl
take_inserted [] (suc k) l = refl
take_inserted (a ∷ old) (suc k) l = ap (λ (lines : List ActiveLine). a ∷ lines) (take_inserted old k l)

pub drop_inserted : (old : List ActiveLine) (k : ℕ) (l : ActiveLine) → drop (suc k) (insert old k l) ≡ drop k old
drop_inserted old zero l = refl
drop_inserted [] (suc k) l = refl
drop_inserted (a ∷ old) (suc k) l = drop_inserted old k l

drop_removed : (old : List ActiveLine) (k : ℕ) → k < length old → drop k (remove old k) ≡ drop (suc k) old
drop_removed old k h = drop_at (take k old) (drop (suc k) old) k (length-take-le k old (omega (arith, h)))

-- ---- one chunk changed

module _ (chunks : List (List ActiveLine)) (c : ℕ) (h : c < length chunks) where
  pub chunk_now : (new : List ActiveLine) → chunk_at (set chunks c new) c ≡ new
  chunk_now new = get_or-set_same chunks c new [] h

  before_now : (new : List ActiveLine) (k : ℕ) → lines_before (set chunks c new) c k ≡ lines_of (take c chunks) ++ take k new
  before_now new k =
      ap (λ (front : List (List ActiveLine)). lines_of front ++ take k (chunk_at (set chunks c new) c)) (take-set chunks c new)
      ∙ ap (λ (lines : List ActiveLine). lines_of (take c chunks) ++ take k lines) (chunk_now new)

  pub after_now : (new : List ActiveLine) (k : ℕ) → lines_after (set chunks c new) c k ≡ drop k new ++ lines_of (drop (c + 1) chunks)
  after_now new k =
      ap (λ (rest : List (List ActiveLine)). drop k (chunk_at (set chunks c new) c) ++ lines_of rest) (drop-set-lt (c + 1) chunks c new (omega arith))
      ∙ ap (λ (lines : List ActiveLine). drop k lines ++ lines_of (drop (c + 1) chunks)) (chunk_now new)

  module _ (old new : List ActiveLine) (read : old ≡ get_or chunks c old) where
    old_is : old ≡ chunk_at chunks c
    old_is = chunk_read chunks c old h read

    pub inserted_before : (k : ℕ) (l : ActiveLine) → new ≡ insert old k l → lines_before (set chunks c new) c (k + 1) ≡ lines_before chunks c k ++ l ∷ []
    inserted_before k l e =
        before_now new (k + 1)
        ∙ (ap (λ (lines : List ActiveLine). lines_of (take c chunks) ++ lines)
        (ap (λ (n : ℕ). take n new) (add-one k) ∙ (ap (λ (lines : List ActiveLine). take (suc k) lines) e
        ∙ (take_inserted old k l ∙ ap (λ (lines : List ActiveLine). take k lines ++ l ∷ []) old_is)))
        ∙ sym (append_assoc (lines_of (take c chunks)) (take k (chunk_at chunks c)) (l ∷ [])))

    pub inserted_after : (k : ℕ) (l : ActiveLine) → new ≡ insert old k l → lines_after (set chunks c new) c (k + 1) ≡ lines_after chunks c k
    inserted_after k l e =
        after_now new (k + 1)
        ∙ ap (λ (lines : List ActiveLine). lines ++ lines_of (drop (c + 1) chunks))
        (ap (λ (n : ℕ). drop n new) (add-one k) ∙ (ap (λ (lines : List ActiveLine). drop (suc k) lines) e
        ∙ (drop_inserted old k l ∙ ap (λ (lines : List ActiveLine). drop k lines) old_is)))

    pub removed_after : (k : ℕ) (l : ActiveLine) → k < length (chunk_at chunks c) → HoldsAt (λ (m : ActiveLine). l ≡ m) old k
        → new ≡ remove old k → lines_after chunks c k ≡ l ∷ lines_after (set chunks c new) c k
    removed_after k l inside is e =
        let within : k < length old = subst (λ (lines : List ActiveLine). k < length lines) (sym old_is) inside in
        let rest : drop k new ≡ drop (k + 1) old = ap (λ (lines : List ActiveLine). drop k lines) e
        ∙ (drop_removed old k within ∙ sym (ap (λ (n : ℕ). drop n old) (add-one k))) in
        let cut : drop k (chunk_at chunks c) ≡ l ∷ drop k new =
        ap (λ (lines : List ActiveLine). drop k lines) (sym old_is)
        ∙ (drop_more old k l within ∙ (ap (λ (m : ActiveLine). m ∷ drop (k + 1) old) (sym (is l))
        ∙ ap (λ (lines : List ActiveLine). l ∷ lines) (sym rest))) in
        ap (λ (lines : List ActiveLine). lines ++ lines_of (drop (c + 1) chunks)) cut ∙ ap (λ (lines : List ActiveLine). l ∷ lines) (sym (after_now new k))

    pub replaced_after : (k : ℕ) (l : ActiveLine) → k < length (chunk_at chunks c) → new ≡ set old k l
        → lines_after (set chunks c new) c (k + 1) ≡ drop 1 (lines_after chunks c k)
    replaced_after k l inside e =
        let rest : drop (k + 1) new ≡ drop (k + 1) (chunk_at chunks c) =
        ap (λ (lines : List ActiveLine). drop (k + 1) lines) e
        ∙ (drop-set-lt (k + 1) old k l (omega arith) ∙ ap (λ (lines : List ActiveLine). drop (k + 1) lines) old_is) in
        after_now new (k + 1)
        ∙ (ap (λ (lines : List ActiveLine). lines ++ lines_of (drop (c + 1) chunks)) rest
        ∙ sym (ap (λ (lines : List ActiveLine). drop 1 (lines ++ lines_of (drop (c + 1) chunks))) (drop_more (chunk_at chunks c) k l inside)))

    pub appended : (l : ActiveLine) → c + 1 ≡ length chunks → new ≡ insert old (length old) l → lines_of (set chunks c new) ≡ lines_of chunks ++ l ∷ []
    appended l last e =
        let whole_new : take (c + 1) (set chunks c new) ≡ set chunks c new = take_all (c + 1) (set chunks c new)
        (omega (arith, last, length-set chunks c new)) in
        let whole_old : take (c + 1) chunks ≡ chunks = take_all (c + 1) chunks (omega (arith, last)) in
        sym (ap lines_of whole_new)
        ∙ (lines_up_to (set chunks c new) c (omega (arith, h, length-set chunks c new))
        ∙ (ap (λ (front : List (List ActiveLine)). lines_of front ++ chunk_at (set chunks c new) c) (take-set chunks c new)
        ∙ (ap (λ (lines : List ActiveLine). lines_of (take c chunks) ++ lines)
        (chunk_now new ∙ (e ∙ (insert_end old l ∙ ap (λ (lines : List ActiveLine). lines ++ l ∷ []) old_is)))
        ∙ (sym (append_assoc (lines_of (take c chunks)) (chunk_at chunks c) (l ∷ []))
        ∙ ap (λ (lines : List ActiveLine). lines ++ l ∷ []) (sym (lines_up_to chunks c h) ∙ ap lines_of whole_old)))))

  -- ---- one chunk cut in two

  module _ (lower upper : List ActiveLine) (cut : chunk_at chunks c ≡ lower ++ upper) where
    few : length (take (c + 1) (set chunks c lower)) ≡ c + 1
    few = length-take-le (c + 1) (set chunks c lower) (omega (arith, h, length-set chunks c lower))

    upper_at : chunk_at (insert (set chunks c lower) (c + 1) upper) (c + 1) ≡ upper
    upper_at = get_or_at (take (c + 1) (set chunks c lower)) upper (drop (c + 1) (set chunks c lower)) [] (c + 1) few

    front_at : take (c + 1) (insert (set chunks c lower) (c + 1) upper) ≡ take (c + 1) (set chunks c lower)
    front_at = take_at (take (c + 1) (set chunks c lower)) (upper ∷ drop (c + 1) (set chunks c lower)) (c + 1) few

    back_at : drop ((c + 1) + 1) (insert (set chunks c lower) (c + 1) upper) ≡ drop (c + 1) chunks
    back_at =
        sym (drop-drop 1 (c + 1) (insert (set chunks c lower) (c + 1) upper))
        ∙ (ap (λ (rest : List (List ActiveLine)). drop 1 rest)
        (drop_at (take (c + 1) (set chunks c lower)) (upper ∷ drop (c + 1) (set chunks c lower)) (c + 1) few)
        ∙ drop-set-lt (c + 1) chunks c lower (omega arith))

    pub split_front : take c (insert (set chunks c lower) (c + 1) upper) ≡ take c chunks
    split_front =
        take-append-le c (take (c + 1) (set chunks c lower)) (upper ∷ drop (c + 1) (set chunks c lower)) (omega (arith, few))
        ∙ (take-take c (c + 1) (set chunks c lower) (omega arith) ∙ take-set chunks c lower)

    take_both : (k : ℕ) → length lower ≤ k → take k (lower ++ upper) ≡ lower ++ take (k - length lower) upper
    take_both k le = both lower k le
      where
        both : (xs : List ActiveLine) (n : ℕ) → length xs ≤ n → take n (xs ++ upper) ≡ xs ++ take (n - length xs) upper
        both [] n le = let e : n ≡ n - 0 = omega arith in ap (λ (m : ℕ). take m upper) e
        both (a ∷ xs) zero le = absurd (omega (arith, le))
        both (a ∷ xs) (suc n) le =
            let e : n - length xs ≡ suc n - length (a ∷ xs) = omega arith in
            ap (λ (lines : List ActiveLine). a ∷ lines) (both xs n (omega (arith, le))) ∙ ap (λ (m : ℕ). a ∷ (xs ++ take m upper)) e

    drop_both : (k : ℕ) → length lower ≤ k → drop k (lower ++ upper) ≡ drop (k - length lower) upper
    drop_both k le = both lower k le
      where
        both : (xs : List ActiveLine) (n : ℕ) → length xs ≤ n → drop n (xs ++ upper) ≡ drop (n - length xs) upper
        both [] n le = let e : n ≡ n - 0 = omega arith in ap (λ (m : ℕ). drop m upper) e
        both (a ∷ xs) zero le = absurd (omega (arith, le))
        both (a ∷ xs) (suc n) le = let e : n - length xs ≡ suc n - length (a ∷ xs) = omega arith in both xs n (omega (arith, le))
            ∙ ap (λ (m : ℕ). drop m upper) e

    pub split_before : (k : ℕ) → length lower ≤ k → lines_before (insert (set chunks c lower) (c + 1) upper) (c + 1)
        (k - length lower) ≡ lines_before chunks c k
    split_before k le =
        ap (λ (front : List (List ActiveLine)). lines_of front ++ take (k - length lower)
        (chunk_at (insert (set chunks c lower) (c + 1) upper) (c + 1))) front_at
        ∙ (ap (λ (lines : List ActiveLine). lines_of (take (c + 1) (set chunks c lower)) ++ take (k - length lower) lines) upper_at
        ∙ (ap (λ (lines : List ActiveLine). lines ++ take (k - length lower) upper)
        (lines_up_to (set chunks c lower) c (omega (arith, h, length-set chunks c lower))
        ∙ (ap (λ (front : List (List ActiveLine)). lines_of front ++ chunk_at (set chunks c lower) c) (take-set chunks c lower)
        ∙ ap (λ (lines : List ActiveLine). lines_of (take c chunks) ++ lines) (chunk_now lower)))
        ∙ (append_assoc (lines_of (take c chunks)) lower (take (k - length lower) upper)
        ∙ ap (λ (lines : List ActiveLine). lines_of (take c chunks) ++ lines)
        (sym (take_both k le) ∙ ap (λ (lines : List ActiveLine). take k lines) (sym cut)))))

    pub split_after : (k : ℕ) → length lower ≤ k → lines_after (insert (set chunks c lower) (c + 1) upper) (c + 1) (k - length lower) ≡ lines_after chunks c k
    split_after k le =
        ap (λ (rest : List (List ActiveLine)). drop (k - length lower) (chunk_at (insert (set chunks c lower) (c + 1) upper) (c + 1)) ++ lines_of rest) back_at
        ∙ ap (λ (lines : List ActiveLine). lines ++ lines_of (drop (c + 1) chunks))
        (ap (λ (lines : List ActiveLine). drop (k - length lower) lines) upper_at
        ∙ (sym (drop_both k le) ∙ ap (λ (lines : List ActiveLine). drop k lines) (sym cut)))

    pub split_place : (k : ℕ) → All HasLine chunks → HasLine lower → HasLine upper → length lower ≤ k → k < length (chunk_at chunks c)
        → IsPlace (insert (set chunks c lower) (c + 1) upper) (c + 1) (k - length lower)
    split_place k full some more le inside =
        let size = length-set chunks c lower in
        let all : All HasLine (set chunks c lower) = All-set HasLine chunks c lower some full in
        let sum = ap (λ (lines : List ActiveLine). length lines) cut ∙ length-append lower upper in
        place_in_chunk (insert (set chunks c lower) (c + 1) upper) (c + 1) (k - length lower)
        (All-append HasLine (take (c + 1) (set chunks c lower)) (upper ∷ drop (c + 1) (set chunks c lower)) (All-take HasLine (c + 1) (set chunks c lower) all)
        (All-cons HasLine upper (drop (c + 1) (set chunks c lower)) more (All-drop HasLine (c + 1) (set chunks c lower) all)))
        (omega (arith, h, size, length-insert (set chunks c lower) (c + 1) upper (omega (arith, h, size))))
        (subst (λ (lines : List ActiveLine). k - length lower < length lines) (sym upper_at) (omega (arith, le, inside, sum)))
