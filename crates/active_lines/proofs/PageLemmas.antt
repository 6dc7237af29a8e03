-- What is kept of pages of chunks.
use Rattle.std.proofs.Common.{ℕ, ℤ, ◌≡◌, ◌+◌, ◌-◌, ◌*◌, ◌/◌, ◌%◌, ◌<◌, ◌≤◌, ◌⊎◌, inl, inr, zero, suc, min, Bool, true}
use Rattle.std.proofs.Common.{false, cond, List, [], ◌∷◌, ◌++◌, Option, Some, None, IfSome, All, length, take, drop}
use Rattle.std.proofs.Common.{get_or, set, arith, ap, subst, sym, refl, ◌∙◌, append_assoc}
use Rattle.std.proofs.lemmas.Bool.{cases_lt}
use Rattle.std.proofs.lemmas.List.{drop-take, take-take, take-set, drop-set-lt, take-append-drop, drop_more, drop-drop}
use Rattle.std.proofs.lemmas.List.{take_all, take_min, drop_min, drop_all, append-nil, length-drop, get_or-take}
use Rattle.std.proofs.lemmas.List.{get_or-set_other}
use Rattle.std.proofs.lemmas.List.Concat.{flat_map-append}
use Rattle.active_lines.specs.declared.item.ActiveLine.{ActiveLine}
use Rattle.active_lines.specs.declared.chunk.Least.{Least}
use Rattle.active_lines.specs.declared.chunk.Least.TheVariants.{Unknown, Known}
use Rattle.active_lines.specs.Neighbours.{SomeMeeting, MeetAtSeam, IsUpTo, IsLeastMeeting, IsFirstMeeting, lesser_of}
use Rattle.active_lines.specs.Chunked.{IsKept, ArePages, page_at, HasLine, chunk_at, lines_of, lines_after}
use Rattle.active_lines.proofs.Meeting.{MeetIn, in_left, at_seam, in_right, meeting_cases, meeting_left, meeting_right}
use Rattle.active_lines.proofs.Meeting.{meeting_seam, lesser_some, up_to_first, up_to_second}
use Rattle.active_lines.proofs.Places.{lines_up_to, lines_from, chunk_full, after_start}
use Rattle.active_lines.proofs.Seams.{seam_less, seam_none, first_in_right, only_in_right}

-- ---- pages that stay

page_front : (chunks new : List (List ActiveLine)) (c p : ℕ) → take c new ≡ take c chunks → 32 * p + 33 ≤ c → page_at new p ≡ page_at chunks p
page_front chunks new c p same le =
    within new ∙ (ap (λ (xs : List (List ActiveLine)). drop (32 * p) (take (32 * p + 33) xs)) same ∙ sym (within chunks))
  where
    within : (xs : List (List ActiveLine)) → take 33 (drop (32 * p) xs) ≡ drop (32 * p) (take (32 * p + 33) (take c xs))
    within xs = sym (drop-take (32 * p) 33 xs) ∙ ap (λ (ys : List (List ActiveLine)). drop (32 * p) ys) (sym (take-take (32 * p + 33) c xs le))

page_back : (chunks : List (List ActiveLine)) (c p : ℕ) (lines : List ActiveLine) → c < 32 * p → page_at (set chunks c lines) p ≡ page_at chunks p
page_back chunks c p lines less = ap (λ (xs : List (List ActiveLine)). take 33 xs) (drop-set-lt (32 * p) chunks c lines less)

kept_same : (old new : List (List ActiveLine)) (a b : Least) → new ≡ old → b ≡ a → IsKept (lines_of old) a → IsKept (lines_of new) b
kept_same old new a b e f h =
    subst (λ (xs : List (List ActiveLine)). IsKept (lines_of xs) b) (sym e) (subst (IsKept (lines_of old)) (sym f) h)

kept_none : (lines : List ActiveLine) (least : Least) → least ≡ Unknown → IsKept lines least
kept_none lines least e = subst (IsKept lines) (sym e) tt

-- ---- a chunk changed

unknown_at : (leasts : List Least) (p : ℕ) → get_or (set leasts p Unknown) p Unknown ≡ Unknown
unknown_at [] zero = refl
unknown_at [] (suc p) = refl
unknown_at (x ∷ leasts) zero = refl
unknown_at (x ∷ leasts) (suc p) = unknown_at leasts p

unknown_still : (leasts : List Least) (p q : ℕ) → get_or leasts p Unknown ≡ Unknown → get_or (set leasts q Unknown) p Unknown ≡ Unknown
unknown_still [] p zero h = h
unknown_still [] p (suc q) h = h
unknown_still (x ∷ leasts) zero zero h = refl
unknown_still (x ∷ leasts) (suc p) zero h = h
unknown_still (x ∷ leasts) zero (suc q) h = h
unknown_still (x ∷ leasts) (suc p) (suc q) h = unknown_still leasts p q h

module _ (chunks : List (List ActiveLine)) (c : ℕ) (lines : List ActiveLine) (leasts : List Least) (kept : ArePages chunks leasts) where
  same_at : (p : ℕ) → (p ≡ c / 32 → ⊥) → (p ≡ (c - 1) / 32 → ⊥)
      → get_or (set (set leasts (c / 32) Unknown) ((c - 1) / 32) Unknown) p Unknown ≡ get_or leasts p Unknown
  same_at p first second =
      get_or-set_other (set leasts (c / 32) Unknown) ((c - 1) / 32) p Unknown Unknown second ∙ get_or-set_other leasts (c / 32) p Unknown Unknown first

  forgot_at : (p : ℕ) → (p < c / 32) ⊎ (c / 32 ≤ p) → (c - 1) / 32 ≤ p → p ≤ c / 32
      → get_or (set (set leasts (c / 32) Unknown) ((c - 1) / 32) Unknown) p Unknown ≡ Unknown
  forgot_at p (inl less) low high =
      let e : p ≡ (c - 1) / 32 = omega (arith, less, low) in
      subst (λ (n : ℕ). get_or (set (set leasts (c / 32) Unknown) n Unknown) p Unknown ≡ Unknown) e (unknown_at (set leasts (c / 32) Unknown) p)
  forgot_at p (inr le) low high =
      let e : p ≡ c / 32 = omega (arith, le, high) in
      unknown_still (set leasts (c / 32) Unknown) p ((c - 1) / 32)
      (subst (λ (n : ℕ). get_or (set leasts n Unknown) p Unknown ≡ Unknown) e (unknown_at leasts p))

  page_high : (p : ℕ) → (c - 1) / 32 ≤ p → (c / 32 < p) ⊎ (p ≤ c / 32)
      → IsKept (lines_of (page_at (set chunks c lines) p)) (get_or (set (set leasts (c / 32) Unknown) ((c - 1) / 32) Unknown) p Unknown)
  page_high p low (inl less) =
      kept_same (page_at chunks p) (page_at (set chunks c lines) p) (get_or leasts p Unknown)
      (get_or (set (set leasts (c / 32) Unknown) ((c - 1) / 32) Unknown) p Unknown)
      (page_back chunks c p lines (omega (arith, less))) (same_at p (λ e. omega (arith, less, e)) (λ e. omega (arith, less, e))) (kept p)
  page_high p low (inr high) =
      kept_none (lines_of (page_at (set chunks c lines) p)) (get_or (set (set leasts (c / 32) Unknown) ((c - 1) / 32) Unknown) p Unknown)
      (forgot_at p (cases_lt p (c / 32)) low high)

  page_any : (p : ℕ) → (p < (c - 1) / 32) ⊎ ((c - 1) / 32 ≤ p)
      → IsKept (lines_of (page_at (set chunks c lines) p)) (get_or (set (set leasts (c / 32) Unknown) ((c - 1) / 32) Unknown) p Unknown)
  page_any p (inl less) =
      kept_same (page_at chunks p) (page_at (set chunks c lines) p) (get_or leasts p Unknown)
      (get_or (set (set leasts (c / 32) Unknown) ((c - 1) / 32) Unknown) p Unknown)
      (page_front chunks (set chunks c lines) c p (take-set chunks c lines) (omega (arith, less)))
      (same_at p (λ e. omega (arith, less, e)) (λ e. omega (arith, less, e)))
      (kept p)
  page_any p (inr low) = page_high p low (cases_lt (c / 32) p)

  pub pages_set : ArePages (set chunks c lines) (set (set leasts (c / 32) Unknown) ((c - 1) / 32) Unknown)
  pages_set = λ p. page_any p (cases_lt p ((c - 1) / 32))

-- ---- chunks from one on changed

past_take : (leasts : List Least) (n p : ℕ) → n ≤ p → get_or (take n leasts) p Unknown ≡ Unknown
past_take leasts zero p h = refl
past_take [] (suc n) p h = refl
past_take (x ∷ leasts) (suc n) zero h = absurd (omega (arith, h))
past_take (x ∷ leasts) (suc n) (suc p) h = past_take leasts n p (omega (arith, h))

pub pages_front : (chunks new : List (List ActiveLine)) (c : ℕ) (leasts : List Least) → ArePages chunks leasts → take c new ≡ take c chunks
    → ArePages new (take ((c - 1) / 32) leasts)
pages_front chunks new c leasts kept same = λ p. at p (cases_lt p ((c - 1) / 32))
  where
    at : (p : ℕ) → (p < (c - 1) / 32) ⊎ ((c - 1) / 32 ≤ p) → IsKept (lines_of (page_at new p)) (get_or (take ((c - 1) / 32) leasts) p Unknown)
    at p (inl less) =
        kept_same (page_at chunks p) (page_at new p) (get_or leasts p Unknown) (get_or (take ((c - 1) / 32) leasts) p Unknown)
        (page_front chunks new c p same (omega (arith, less))) (get_or-take ((c - 1) / 32) leasts p Unknown less) (kept p)
    at p (inr le) = kept_none (lines_of (page_at new p)) (get_or (take ((c - 1) / 32) leasts) p Unknown) (past_take leasts ((c - 1) / 32) p le)

-- ---- one page kept

kept_set : (F : ℕ → Least → Type 0) (xs : List Least) (p : ℕ) (x : Least) → ((q : ℕ) → F q (get_or xs q Unknown)) → F p x
    → (q : ℕ) → F q (get_or (set xs p x) q Unknown)
kept_set F [] zero x all h q = all q
kept_set F [] (suc p) x all h q = all q
kept_set F (y ∷ xs) zero x all h zero = h
kept_set F (y ∷ xs) zero x all h (suc q) = all (suc q)
kept_set F (y ∷ xs) (suc p) x all h zero = all zero
kept_set F (y ∷ xs) (suc p) x all h (suc q) = kept_set (λ (n : ℕ) (l : Least). F (suc n) l) xs p x (λ n. all (suc n)) h q

kept_more : (F : ℕ → Least → Type 0) (xs : List Least) (x : Least) → ((q : ℕ) → F q (get_or xs q Unknown)) → F (length xs) x
    → (q : ℕ) → F q (get_or (xs ++ x ∷ []) q Unknown)
kept_more F [] x all h zero = h
kept_more F [] x all h (suc q) = all (suc q)
kept_more F (y ∷ xs) x all h zero = all zero
kept_more F (y ∷ xs) x all h (suc q) = kept_more (λ (n : ℕ) (l : Least). F (suc n) l) xs x (λ n. all (suc n)) h q

pub pages_known : (chunks : List (List ActiveLine)) (leasts : List Least) (p : ℕ) (least : Option ℤ) → ArePages chunks leasts
    → IsLeastMeeting (lines_of (page_at chunks p)) least → ArePages chunks (set leasts p (Known least))
pages_known chunks leasts p least kept h = kept_set (λ (q : ℕ) (l : Least). IsKept (lines_of (page_at chunks q)) l) leasts p (Known least) kept h

pub pages_more : (chunks : List (List ActiveLine)) (leasts : List Least) (p : ℕ) (least : Option ℤ) → ArePages chunks leasts
    → p ≡ length leasts → IsLeastMeeting (lines_of (page_at chunks p)) least → ArePages chunks (leasts ++ Known least ∷ [])
pages_more chunks leasts p least kept e h =
    kept_more (λ (q : ℕ) (l : Least). IsKept (lines_of (page_at chunks q)) l) leasts (Known least) kept
    (subst (λ (q : ℕ). IsLeastMeeting (lines_of (page_at chunks q)) least) e h)

pub pages_pushed : (b : Bool) (chunks : List (List ActiveLine)) (leasts : List Least) (p : ℕ) (least : Option ℤ) → ArePages chunks leasts
    → p ≡ length leasts → IsLeastMeeting (lines_of (page_at chunks p)) least → ArePages chunks (cond b (leasts ++ Known least ∷ []) leasts)
pages_pushed true chunks leasts p least kept e h = pages_more chunks leasts p least kept e h
pages_pushed false chunks leasts p least kept e h = kept

pub page_cut : (chunks : List (List ActiveLine)) (p to : ℕ) → to ≡ min (length chunks) (32 * p + 33) → 32 * p ≤ length chunks
    → take (to - 32 * p) (drop (32 * p) chunks) ≡ page_at chunks p
page_cut chunks p to e inside =
    let count : to - 32 * p ≡ min 33 (length (drop (32 * p) chunks)) = omega (arith, e, inside, length-drop (32 * p) chunks) in
    ap (λ (n : ℕ). take n (drop (32 * p) chunks)) count ∙ take_min 33 (drop (32 * p) chunks)

pub least_kept : (chunks : List (List ActiveLine)) (leasts : List Least) (p : ℕ) (least : Option ℤ) → ArePages chunks leasts
    → Known least ≡ get_or leasts p Unknown → IsLeastMeeting (lines_of (page_at chunks p)) least
least_kept chunks leasts p least kept e = subst (IsKept (lines_of (page_at chunks p))) (sym e) (kept p)

-- ---- the least meeting, page by page

over : {P Q : ℤ → Type 0} (o : Option ℤ) → ((y : ℤ) → P y → Q y) → IfSome o P → IfSome o Q
over None f h = tt
over (Some y) f h = f y h

-- of two lists that have the lines between them in common
least_overlap : (xs ys zs : List ActiveLine) (a b : Option ℤ) → HasLine ys → IsLeastMeeting (xs ++ ys) a → IsLeastMeeting (ys ++ zs) b
    → IsLeastMeeting (xs ++ (ys ++ zs)) (lesser_of a b)
least_overlap xs ys zs a b some p q = record {
  attained =
      lesser_some (SomeMeeting (xs ++ (ys ++ zs))) a b
      (over a (λ y h. subst (λ (lines : List ActiveLine). SomeMeeting lines y) (append_assoc xs ys zs) (meeting_left (xs ++ ys) zs y h)) p.attained)
      (over b (λ y h. meeting_right xs (ys ++ zs) y h) q.attained);
  no_lower = λ z h. by z (meeting_cases xs (ys ++ zs) z h);
}
  where
    by : (z : ℤ) → MeetIn xs (ys ++ zs) z → IsUpTo z (lesser_of a b)
    by z (in_left h) = up_to_first z a b (p.no_lower z (meeting_left xs ys z h))
    by z (at_seam h) = up_to_first z a b (p.no_lower z (meeting_seam xs ys z (seam_less xs ys zs z some h)))
    by z (in_right h) = up_to_second z a b (q.no_lower z h)

module _ (chunks : List (List ActiveLine)) (full : All HasLine chunks) (p : ℕ) where
  pub page_more : (a b : Option ℤ) → 32 * p + 1 < length chunks → IsLeastMeeting (lines_of (take (32 * p + 1) chunks)) a
      → IsLeastMeeting (lines_of (page_at chunks p)) b → IsLeastMeeting (lines_of (take (32 * (p + 1) + 1) chunks)) (lesser_of a b)
  page_more a b less left page =
      let inside : 32 * p < length chunks = omega (arith, less) in
      let front = lines_of (take (32 * p) chunks) in
      let here = chunk_at chunks (32 * p) in
      let rest = lines_of (take 32 (drop (32 * p + 1) chunks)) in
      let page_is : lines_of (page_at chunks p) ≡ here ++ rest = ap (λ (xs : List (List ActiveLine)). lines_of (take 33 xs))
      (drop_more chunks (32 * p) [] inside) in
      let both = least_overlap front here rest a b (chunk_full chunks (32 * p) full inside)
      (subst (λ (lines : List ActiveLine). IsLeastMeeting lines a) (lines_up_to chunks (32 * p) inside) left)
      (subst (λ (lines : List ActiveLine). IsLeastMeeting lines b) page_is page) in
      subst (λ (lines : List ActiveLine). IsLeastMeeting lines (lesser_of a b))
      (sym (whole_is ∙ ap (λ (lines : List ActiveLine). lines_of (take (32 * p) chunks) ++ lines) page_is)) both
    where
      count : 32 * (p + 1) + 1 ≡ 32 * p + 33
      count = omega arith

      parts : take (32 * p + 33) chunks ≡ take (32 * p) chunks ++ page_at chunks p
      parts =
          sym (take-append-drop (32 * p) (take (32 * p + 33) chunks))
          ∙ (ap (λ (xs : List (List ActiveLine)). xs ++ drop (32 * p) (take (32 * p + 33) chunks))
          (take-take (32 * p) (32 * p + 33) chunks (omega arith))
          ∙ ap (λ (xs : List (List ActiveLine)). take (32 * p) chunks ++ xs) (drop-take (32 * p) 33 chunks))

      whole_is : lines_of (take (32 * (p + 1) + 1) chunks) ≡ lines_of (take (32 * p) chunks) ++ lines_of (page_at chunks p)
      whole_is =
          ap (λ (n : ℕ). lines_of (take n chunks)) count
          ∙ (ap lines_of parts ∙ flat_map-append (λ (lines : List ActiveLine). lines) (take (32 * p) chunks) (page_at chunks p))

  pub pages_all : (a : Option ℤ) → length chunks ≤ 32 * p + 1 → IsLeastMeeting (lines_of (take (32 * p + 1) chunks)) a
      → IsLeastMeeting (lines_of chunks) a
  pages_all a le h = subst (λ (xs : List (List ActiveLine)). IsLeastMeeting (lines_of xs) a) (take_all (32 * p + 1) chunks le) h

-- ---- a page without a meeting, passed over

module _ (chunks : List (List ActiveLine)) (full : All HasLine chunks) (c : ℕ) (y : ℤ)
    (quiet : SomeMeeting (lines_of (take 33 (drop c chunks))) y → ⊥) where
  front_is : lines_of (take 33 (drop c chunks)) ≡ lines_of (take 32 (drop c chunks)) ++ lines_of (take 1 (drop (c + 32) chunks))
  front_is =
      ap lines_of
      (sym (take-append-drop 32 (take 33 (drop c chunks)))
      ∙ (ap (λ (xs : List (List ActiveLine)). xs ++ drop 32 (take 33 (drop c chunks))) (take-take 32 33 (drop c chunks) (omega arith))
      ∙ ap (λ (xs : List (List ActiveLine)). take 32 (drop c chunks) ++ xs)
      (drop-take 32 1 (drop c chunks) ∙ ap (λ (xs : List (List ActiveLine)). take 1 xs) (drop-drop 32 c chunks))))
      ∙ flat_map-append (λ (lines : List ActiveLine). lines) (take 32 (drop c chunks)) (take 1 (drop (c + 32) chunks))

  none_in : SomeMeeting (lines_of (take 32 (drop c chunks))) y → ⊥
  none_in h =
      quiet
      (subst (λ (lines : List ActiveLine). SomeMeeting lines y) (sym front_is)
      (meeting_left (lines_of (take 32 (drop c chunks))) (lines_of (take 1 (drop (c + 32) chunks))) y h))

  none_at : (c + 32 < length chunks) ⊎ (length chunks ≤ c + 32) → MeetAtSeam (lines_of (take 32 (drop c chunks))) (lines_of (drop (c + 32) chunks)) y → ⊥
  none_at (inl inside) h =
      let next : lines_of (take 1 (drop (c + 32) chunks)) ≡ chunk_at chunks (c + 32) =
      ap (λ (xs : List (List ActiveLine)). lines_of (take 1 xs)) (drop_more chunks (c + 32) [] inside) ∙ append-nil (chunk_at chunks (c + 32)) in
      let less = seam_less (lines_of (take 32 (drop c chunks))) (chunk_at chunks (c + 32)) (lines_of (drop ((c + 32) + 1) chunks)) y
      (chunk_full chunks (c + 32) full inside)
      (subst (λ (lines : List ActiveLine). MeetAtSeam (lines_of (take 32 (drop c chunks))) lines y) (lines_from chunks (c + 32) inside) h) in
      let met = meeting_seam (lines_of (take 32 (drop c chunks))) (chunk_at chunks (c + 32)) y less in
      quiet
      (subst (λ (lines : List ActiveLine). SomeMeeting lines y)
      (sym (front_is ∙ ap (λ (lines : List ActiveLine). lines_of (take 32 (drop c chunks)) ++ lines) next)) met)
  none_at (inr le) h =
      seam_none (lines_of (take 32 (drop c chunks))) y
      (subst (λ (xs : List (List ActiveLine)). MeetAtSeam (lines_of (take 32 (drop c chunks))) (lines_of xs) y) (drop_all (c + 32) chunks le) h)

  now_is : lines_after chunks c 0 ≡ lines_of (take 32 (drop c chunks)) ++ lines_of (drop (c + 32) chunks)
  now_is =
      after_start chunks c
      ∙ (ap lines_of (sym (take-append-drop 32 (drop c chunks)))
      ∙ (flat_map-append (λ (lines : List ActiveLine). lines) (take 32 (drop c chunks)) (drop 32 (drop c chunks))
      ∙ ap (λ (xs : List (List ActiveLine)). lines_of (take 32 (drop c chunks)) ++ lines_of xs) (drop-drop 32 c chunks)))

  then_is : lines_after chunks (min (c + 32) (length chunks)) 0 ≡ lines_of (drop (c + 32) chunks)
  then_is = after_start chunks (min (c + 32) (length chunks)) ∙ ap lines_of (drop_min (c + 32) chunks)

  pub passed_some : (line : ActiveLine) → IsFirstMeeting (lines_after chunks (min (c + 32) (length chunks)) 0) y line
      → IsFirstMeeting (lines_after chunks c 0) y line
  passed_some line h =
      subst (λ (lines : List ActiveLine). IsFirstMeeting lines y line) (sym now_is)
      (first_in_right (lines_of (take 32 (drop c chunks))) (lines_of (drop (c + 32) chunks)) y line none_in
      (none_at (cases_lt (c + 32) (length chunks))) (subst (λ (lines : List ActiveLine). IsFirstMeeting lines y line) then_is h))

  pub passed_none : SomeMeeting (lines_after chunks c 0) y → SomeMeeting (lines_after chunks (min (c + 32) (length chunks)) 0) y
  passed_none h =
      subst (λ (lines : List ActiveLine). SomeMeeting lines y) (sym then_is)
      (only_in_right (lines_of (take 32 (drop c chunks))) (lines_of (drop (c + 32) chunks)) y none_in
      (none_at (cases_lt (c + 32) (length chunks))) (subst (λ (lines : List ActiveLine). SomeMeeting lines y) now_is h))
