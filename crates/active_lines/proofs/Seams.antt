-- Where the last line of one list meets the first of the next one.
use Rattle.std.proofs.Common.{ℕ, ℤ, ◌≡◌, ◌+◌, ◌<◌, ◌≤◌, zero, suc, List, [], ◌∷◌, ◌++◌, Option, Some, None, IfSome, All}
use Rattle.std.proofs.Common.{length, take, drop, get_or, set, arith, ap, subst, sym, ◌∙◌, append_assoc}
use Rattle.std.proofs.lemmas.List.{drop_all, take-append-drop, set-get_or, get_or_default}
use Rattle.active_lines.specs.declared.item.ActiveLine.{ActiveLine}
use Rattle.active_lines.specs.ActiveLists.{last_of}
use Rattle.active_lines.specs.Leaning.{MeetAbove}
use Rattle.active_lines.specs.Neighbours.{SomeMeeting, MeetAtSeam, IsSeam, IsLeastMeeting, lesser_of, IsFirstMeeting, IsLastMeeting}
use Rattle.active_lines.specs.Chunked.{HasLine, chunk_at, lines_of, lines_after}
use Rattle.active_lines.proofs.Meeting.{MeetIn, in_left, at_seam, in_right, meeting_cases, least_of_two}
use Rattle.active_lines.proofs.Lasts.{last_split, last_drop, front_of}
use Rattle.active_lines.proofs.Places.{lines_from, lines_up_to, chunk_full}

-- ---- what decides a seam

pub seam_to : (xs rest : List ActiveLine) (l m : ActiveLine) (y : ℤ) → last_of xs ≡ Some l → MeetAbove l.line m.line y → MeetAtSeam xs (m ∷ rest) y
seam_to [] rest l m y e h = absurd (cc)
seam_to (k ∷ []) rest l m y e h = let same : k ≡ l = cc in subst (λ (n : ActiveLine). MeetAbove n.line m.line y) (sym same) h
seam_to (k ∷ j ∷ xs) rest l m y e h = seam_to (j ∷ xs) rest l m y e h

pub seam_from : (xs rest : List ActiveLine) (l m : ActiveLine) (y : ℤ) → last_of xs ≡ Some l → MeetAtSeam xs (m ∷ rest) y → MeetAbove l.line m.line y
seam_from [] rest l m y e h = absurd h
seam_from (k ∷ []) rest l m y e h = let same : k ≡ l = cc in subst (λ (n : ActiveLine). MeetAbove n.line m.line y) same h
seam_from (k ∷ j ∷ xs) rest l m y e h = seam_from (j ∷ xs) rest l m y e h

pub seam_by : (xs ys : List ActiveLine) (l m : ActiveLine) (meeting : Option ℤ) → last_of xs ≡ Some l → HasLine ys
    → m ≡ get_or ys 0 m → IfSome meeting (MeetAbove l.line m.line) → ((y : ℤ) → MeetAbove l.line m.line y → meeting ≡ Some y) → IsSeam xs ys meeting
seam_by xs [] l m meeting e h f some only = absurd (omega (arith, h))
seam_by xs (n ∷ rest) l m meeting e h f some only = record {
  attained = over meeting some;
  only = λ y s. only y
      (seam_from xs rest l m y e (subst (λ (k : ActiveLine). MeetAtSeam xs (k ∷ rest) y) (sym f) s));
}
  where
    over : (o : Option ℤ) → IfSome o (MeetAbove l.line m.line) → IfSome o (MeetAtSeam xs (n ∷ rest))
    over None s = tt
    over (Some y) s = subst (λ (k : ActiveLine). MeetAtSeam xs (k ∷ rest) y) f (seam_to xs rest l m y e s)

pub seam_none : (xs : List ActiveLine) (y : ℤ) → MeetAtSeam xs [] y → ⊥
seam_none [] y h = h
seam_none (l ∷ []) y h = h
seam_none (l ∷ k ∷ xs) y h = seam_none (k ∷ xs) y h

pub seam_more : (xs ys zs : List ActiveLine) (y : ℤ) → MeetAtSeam xs ys y → MeetAtSeam xs (ys ++ zs) y
seam_more [] ys zs y h = absurd h
seam_more (l ∷ []) [] zs y h = absurd h
seam_more (l ∷ []) (m ∷ ys) zs y h = h
seam_more (l ∷ k ∷ xs) ys zs y h = seam_more (k ∷ xs) ys zs y h

pub seam_less : (xs ys zs : List ActiveLine) (y : ℤ) → HasLine ys → MeetAtSeam xs (ys ++ zs) y → MeetAtSeam xs ys y
seam_less [] ys zs y some h = absurd h
seam_less (l ∷ []) [] zs y some h = absurd (omega (arith, some))
seam_less (l ∷ []) (m ∷ ys) zs y some h = h
seam_less (l ∷ k ∷ xs) ys zs y some h = seam_less (k ∷ xs) ys zs y some h

step_front : (l : ActiveLine) (xs ys : List ActiveLine) (y : ℤ) → MeetAtSeam xs ys y → MeetAtSeam (l ∷ xs) ys y
step_front l [] ys y h = absurd h
step_front l (k ∷ xs) ys y h = h

pub seam_front : (zs xs ys : List ActiveLine) (y : ℤ) → MeetAtSeam xs ys y → MeetAtSeam (zs ++ xs) ys y
seam_front [] xs ys y h = h
seam_front (l ∷ zs) xs ys y h = step_front l (zs ++ xs) ys y (seam_front zs xs ys y h)

pub seam_back : (zs xs ys : List ActiveLine) (y : ℤ) → HasLine xs → MeetAtSeam (zs ++ xs) ys y → MeetAtSeam xs ys y
seam_back [] xs ys y some h = h
seam_back (l ∷ []) [] ys y some h = absurd (omega (arith, some))
seam_back (l ∷ []) (k ∷ xs) ys y some h = h
seam_back (l ∷ k ∷ zs) xs ys y some h = seam_back (k ∷ zs) xs ys y some h

-- ---- the seams of chunks

module _ (chunks : List (List ActiveLine)) (full : All HasLine chunks) (c : ℕ) (y : ℤ) where
  module _ (next : c + 1 < length chunks) where
    here : c < length chunks
    here = omega (arith, next)

    rest_is : lines_of (drop (c + 1) chunks) ≡ chunk_at chunks (c + 1) ++ lines_of (drop ((c + 1) + 1) chunks)
    rest_is = lines_from chunks (c + 1) next

    pub seam_in_chunks : MeetAtSeam (lines_of (take (c + 1) chunks)) (chunk_at chunks (c + 1)) y
        → MeetAtSeam (chunk_at chunks c) (lines_of (drop (c + 1) chunks)) y
    seam_in_chunks h =
        subst (λ (lines : List ActiveLine). MeetAtSeam (chunk_at chunks c) lines y) (sym rest_is)
        (seam_more (chunk_at chunks c) (chunk_at chunks (c + 1)) (lines_of (drop ((c + 1) + 1) chunks)) y
        (seam_back (lines_of (take c chunks)) (chunk_at chunks c) (chunk_at chunks (c + 1)) y (chunk_full chunks c full here)
        (subst (λ (lines : List ActiveLine). MeetAtSeam lines (chunk_at chunks (c + 1)) y) (lines_up_to chunks c here) h)))

    pub seam_of_chunks : MeetAtSeam (chunk_at chunks c) (lines_of (drop (c + 1) chunks)) y
        → MeetAtSeam (lines_of (take (c + 1) chunks)) (chunk_at chunks (c + 1)) y
    seam_of_chunks h =
        subst (λ (lines : List ActiveLine). MeetAtSeam lines (chunk_at chunks (c + 1)) y) (sym (lines_up_to chunks c here))
        (seam_front (lines_of (take c chunks)) (chunk_at chunks c) (chunk_at chunks (c + 1)) y
        (seam_less (chunk_at chunks c) (chunk_at chunks (c + 1)) (lines_of (drop ((c + 1) + 1) chunks)) y (chunk_full chunks (c + 1) full next)
        (subst (λ (lines : List ActiveLine). MeetAtSeam (chunk_at chunks c) lines y) rest_is h)))

  pub seam_at_end : length chunks ≤ c + 1 → MeetAtSeam (chunk_at chunks c) (lines_of (drop (c + 1) chunks)) y → ⊥
  seam_at_end end h = seam_none (chunk_at chunks c) y (subst
      (λ (rest : List (List ActiveLine)). MeetAtSeam (chunk_at chunks c) (lines_of rest) y) (drop_all (c + 1) chunks end) h)

-- ---- the leftmost meeting of lists that follow one another

pub first_in_left : (xs ys : List ActiveLine) (y : ℤ) (l : ActiveLine) → IsFirstMeeting xs y l → IsFirstMeeting (xs ++ ys) y l
first_in_left xs ys y l h = record {
  left = h.left;
  m = h.m;
  right = h.right ++ ys;
  split = ap (λ (lines : List ActiveLine). lines ++ ys) h.split ∙ append_assoc h.left (l ∷ h.m ∷ h.right) ys;
  meets = h.meets;
  none_before = h.none_before;
}

pub first_at_seam : (xs ys : List ActiveLine) (y : ℤ) (l : ActiveLine) → last_of xs ≡ Some l → MeetAtSeam xs ys y
    → (SomeMeeting xs y → ⊥) → IsFirstMeeting (xs ++ ys) y l
first_at_seam xs [] y l e h none = absurd (seam_none xs y h)
first_at_seam xs (m ∷ ys) y l e h none = record {
  left = front_of xs;
  m = m;
  right = ys;
  split = ap (λ (lines : List ActiveLine). lines ++ (m ∷ ys)) (last_split xs l e) ∙ append_assoc (front_of xs) (l ∷ []) (m ∷ ys);
  meets = seam_from xs ys l m y e h;
  none_before = λ s. none (subst (λ (lines : List ActiveLine). SomeMeeting lines y) (sym (last_split xs l e)) s);
}

pub first_in_right : (xs ys : List ActiveLine) (y : ℤ) (l : ActiveLine) → (SomeMeeting xs y → ⊥) → (MeetAtSeam xs ys y → ⊥)
    → IsFirstMeeting ys y l → IsFirstMeeting (xs ++ ys) y l
first_in_right xs ys y l none apart h = record {
  left = xs ++ h.left;
  m = h.m;
  right = h.right;
  split = ap (λ (lines : List ActiveLine). xs ++ lines) h.split ∙ sym (append_assoc xs h.left (l ∷ h.m ∷ h.right));
  meets = h.meets;
  none_before = λ s. by (meeting_cases xs (h.left ++ l ∷ []) y (subst (λ (lines : List ActiveLine). SomeMeeting lines y) (append_assoc xs h.left (l ∷ [])) s));
}
  where
    begins : (left : List ActiveLine) → (zs : List ActiveLine) → zs ≡ left ++ (l ∷ h.m ∷ h.right) → MeetAtSeam xs (left ++ l ∷ []) y → MeetAtSeam xs zs y
    begins left zs e s =
        subst (λ (lines : List ActiveLine). MeetAtSeam xs lines y) (append_assoc left (l ∷ []) (h.m ∷ h.right) ∙ sym e)
        (seam_more xs (left ++ l ∷ []) (h.m ∷ h.right) y s)

    by : MeetIn xs (h.left ++ l ∷ []) y → ⊥
    by (in_left s) = none s
    by (at_seam s) = apart (begins h.left ys h.split s)
    by (in_right s) = h.none_before s

pub only_in_right : (xs ys : List ActiveLine) (y : ℤ) → (SomeMeeting xs y → ⊥) → (MeetAtSeam xs ys y → ⊥) → SomeMeeting (xs ++ ys) y → SomeMeeting ys y
only_in_right xs ys y none apart h = by (meeting_cases xs ys y h)
  where
    by : MeetIn xs ys y → SomeMeeting ys y
    by (in_left s) = absurd (none s)
    by (at_seam s) = absurd (apart s)
    by (in_right s) = s

some_left : (lines : List ActiveLine) (n : ℕ) → n < length lines → HasLine (drop n lines)
some_left [] n h = absurd (omega (arith, h))
some_left (l ∷ lines) zero h = omega arith
some_left (l ∷ lines) (suc n) h = some_left lines n (omega (arith, h))

-- a chunk from one of its lines on, and those after it
module _ (chunks : List (List ActiveLine)) (c k : ℕ) (y : ℤ) where
  pub tail_apart : (MeetAtSeam (chunk_at chunks c) (lines_of (drop (c + 1) chunks)) y → ⊥)
      → MeetAtSeam (drop k (chunk_at chunks c)) (lines_of (drop (c + 1) chunks)) y → ⊥
  tail_apart apart s =
      apart
      (subst (λ (lines : List ActiveLine). MeetAtSeam lines (lines_of (drop (c + 1) chunks)) y) (take-append-drop k (chunk_at chunks c))
      (seam_front (take k (chunk_at chunks c)) (drop k (chunk_at chunks c)) (lines_of (drop (c + 1) chunks)) y s))

  pub first_at_end : (l : ActiveLine) → k < length (chunk_at chunks c) → IsLastMeeting (chunk_at chunks c) (lines_of (drop (c + 1) chunks)) y l
      → (SomeMeeting (drop k (chunk_at chunks c)) y → ⊥) → IsFirstMeeting (lines_after chunks c k) y l
  first_at_end l inside h none =
      first_at_seam (drop k (chunk_at chunks c)) (lines_of (drop (c + 1) chunks)) y l (last_drop (chunk_at chunks c) k inside ∙ h.last)
      (seam_back (take k (chunk_at chunks c)) (drop k (chunk_at chunks c)) (lines_of (drop (c + 1) chunks)) y
      (some_left (chunk_at chunks c) k inside) (subst (λ (lines : List ActiveLine). MeetAtSeam lines (lines_of (drop (c + 1) chunks)) y)
      (sym (take-append-drop k (chunk_at chunks c))) h.meets))
      none

-- ---- the least meeting, chunk by chunk

pub unchanged : (now chunks : List (List ActiveLine)) (c : ℕ) (d new : List ActiveLine) → now ≡ chunks → new ≡ get_or now c d → set now c new ≡ chunks
unchanged now chunks c d new same e = ap (λ (xs : List ActiveLine). set now c xs) e ∙ (set-get_or now c d ∙ same)

pub least_further : (now chunks : List (List ActiveLine)) (c : ℕ) (d : List ActiveLine) (a s b r q : Option ℤ) → now ≡ chunks
    → c < length now → IsLeastMeeting (lines_of (take c chunks)) a → IsSeam (lines_of (take c now)) (chunk_at now c) s
    → IsLeastMeeting (get_or now c d) b → q ≡ lesser_of a s → r ≡ lesser_of q b → IsLeastMeeting (lines_of (take (c + 1) chunks)) r
least_further now chunks c d a s b r q same inside p seam h e f =
    let first = subst (λ (xs : List (List ActiveLine)). IsLeastMeeting (lines_of (take c xs)) a) (sym same) p in
    let last = subst (λ (xs : List ActiveLine). IsLeastMeeting xs b) (get_or_default now c d [] inside) h in
    let both = least_of_two (lines_of (take c now)) (chunk_at now c) a s b first seam last in
    let all = subst (λ (xs : List ActiveLine). IsLeastMeeting xs (lesser_of (lesser_of a s) b)) (sym (lines_up_to now c inside)) both in
    let value : lesser_of (lesser_of a s) b ≡ r = ap (λ (o : Option ℤ). lesser_of o b) (sym e) ∙ sym f in
    subst (λ (xs : List (List ActiveLine)). IsLeastMeeting (lines_of (take (c + 1) xs)) r) same (subst (IsLeastMeeting (lines_of (take (c + 1) now))) value all)
