-- The meetings of neighbours: line by line, and over lists that follow one another.
use Rattle.std.proofs.Common.{ℤ, ◌≡◌, ◌⊎◌, inl, inr, Bool, true, false, cond, List, [], ◌∷◌, ◌++◌, Option, Some, None, IfSome, All, arith, ap, subst, sym, refl}
use Rattle.std.proofs.lemmas.Int.{ints, clamps}
use Rattle.std.proofs.lemmas.List.Elements.{All-tail}
use Rattle.std.specs.Prelude.{int_lt}
use Rattle.active_lines.specs.declared.item.ActiveLine.{ActiveLine}
use Rattle.active_lines.specs.Neighbours.{SomeMeeting, MeetAtSeam, IsUpTo, lesser_of, IsSeam, IsLeastMeeting, IsFirstMeeting}
use Rattle.active_lines.specs.Chunked.{HasNearLine}

-- ---- the lesser of two

either : (P : ℤ → Type 0) (y z : ℤ) (b : Bool) → P y → P z → P (cond b z y)
either P y z true p q = q
either P y z false p q = p

pub lesser_some : (P : ℤ → Type 0) (y z : Option ℤ) → IfSome y P → IfSome z P → IfSome (lesser_of y z) P
lesser_some P None z p q = q
lesser_some P (Some y) None p q = p
lesser_some P (Some y) (Some z) p q = either P y z (int_lt z y) p q

pub up_to_first : (w : ℤ) (y z : Option ℤ) → IsUpTo w y → IsUpTo w (lesser_of y z)
up_to_first w None z h = absurd h
up_to_first w (Some y) None h = h
up_to_first w (Some y) (Some z) h = omega (arith, ints, clamps, h)

pub up_to_second : (w : ℤ) (y z : Option ℤ) → IsUpTo w z → IsUpTo w (lesser_of y z)
up_to_second w None z h = h
up_to_second w (Some y) None h = absurd h
up_to_second w (Some y) (Some z) h = omega (arith, ints, clamps, h)

pub up_to_this : (w : ℤ) (y : Option ℤ) → y ≡ Some w → IsUpTo w y
up_to_this w y e = subst (IsUpTo w) (sym e) (omega (arith, ints))

-- ---- a line and those after it

pub later_meeting : (l : ActiveLine) (lines : List ActiveLine) (y : ℤ) → SomeMeeting lines y → SomeMeeting (l ∷ lines) y
later_meeting l [] y h = absurd h
later_meeting l (m ∷ lines) y h = inr h

pub first_seam : (l : ActiveLine) (lines : List ActiveLine) (y : ℤ) → MeetAtSeam (l ∷ []) lines y → SomeMeeting (l ∷ lines) y
first_seam l [] y h = absurd h
first_seam l (m ∷ lines) y h = inl h

pub seam_or_later : (l : ActiveLine) (lines : List ActiveLine) (y : ℤ) → SomeMeeting (l ∷ lines) y → MeetAtSeam (l ∷ []) lines y ⊎ SomeMeeting lines y
seam_or_later l [] y h = absurd h
seam_or_later l (m ∷ lines) y h = h

-- ---- lists that follow one another

pub meeting_left : (xs ys : List ActiveLine) (y : ℤ) → SomeMeeting xs y → SomeMeeting (xs ++ ys) y
meeting_left [] ys y h = absurd h
meeting_left (l ∷ []) ys y h = absurd h
meeting_left (l ∷ m ∷ xs) ys y (inl h) = inl h
meeting_left (l ∷ m ∷ xs) ys y (inr h) = inr (meeting_left (m ∷ xs) ys y h)

pub meeting_right : (xs ys : List ActiveLine) (y : ℤ) → SomeMeeting ys y → SomeMeeting (xs ++ ys) y
meeting_right [] ys y h = h
meeting_right (l ∷ xs) ys y h = later_meeting l (xs ++ ys) y (meeting_right xs ys y h)

pub meeting_seam : (xs ys : List ActiveLine) (y : ℤ) → MeetAtSeam xs ys y → SomeMeeting (xs ++ ys) y
meeting_seam [] ys y h = absurd h
meeting_seam (l ∷ []) [] y h = absurd h
meeting_seam (l ∷ []) (m ∷ ys) y h = inl h
meeting_seam (l ∷ k ∷ xs) ys y h = inr (meeting_seam (k ∷ xs) ys y h)

-- a meeting in two lists is in one of them, or where they meet
pub data MeetIn (xs ys : List ActiveLine) (y : ℤ) : Type 0 where
  in_left : SomeMeeting xs y → MeetIn xs ys y
  at_seam : MeetAtSeam xs ys y → MeetIn xs ys y
  in_right : SomeMeeting ys y → MeetIn xs ys y

further : (l k : ActiveLine) (xs ys : List ActiveLine) (y : ℤ) → MeetIn (k ∷ xs) ys y → MeetIn (l ∷ k ∷ xs) ys y
further l k xs ys y (in_left h) = in_left (inr h)
further l k xs ys y (at_seam h) = at_seam h
further l k xs ys y (in_right h) = in_right h

pub meeting_cases : (xs ys : List ActiveLine) (y : ℤ) → SomeMeeting (xs ++ ys) y → MeetIn xs ys y
meeting_cases [] ys y h = in_right h
meeting_cases (l ∷ []) [] y h = absurd h
meeting_cases (l ∷ []) (m ∷ ys) y (inl h) = at_seam h
meeting_cases (l ∷ []) (m ∷ ys) y (inr h) = in_right h
meeting_cases (l ∷ k ∷ xs) ys y (inl h) = in_left (inl h)
meeting_cases (l ∷ k ∷ xs) ys y (inr h) = further l k xs ys y (meeting_cases (k ∷ xs) ys y h)

-- the least meeting of two lists
pub least_of_two : (xs ys : List ActiveLine) (a s b : Option ℤ) → IsLeastMeeting xs a → IsSeam xs ys s → IsLeastMeeting ys b
    → IsLeastMeeting (xs ++ ys) (lesser_of (lesser_of a s) b)
least_of_two xs ys a s b p q r = record {
  attained =
      lesser_some (SomeMeeting (xs ++ ys)) (lesser_of a s) b
      (lesser_some (SomeMeeting (xs ++ ys)) a s (over a (meeting_left xs ys) p.attained) (over s (meeting_seam xs ys) q.attained))
      (over b (meeting_right xs ys) r.attained);
  no_lower = λ z h. by z (meeting_cases xs ys z h);
}
  where
    over : {P Q : ℤ → Type 0} (o : Option ℤ) → ((y : ℤ) → P y → Q y) → IfSome o P → IfSome o Q
    over None f h = tt
    over (Some y) f h = f y h

    by : (z : ℤ) → MeetIn xs ys z → IsUpTo z (lesser_of (lesser_of a s) b)
    by z (in_left h) = up_to_first z (lesser_of a s) b (up_to_first z a s (p.no_lower z h))
    by z (at_seam h) = up_to_first z (lesser_of a s) b (up_to_second z a s (up_to_this z s (q.only z h)))
    by z (in_right h) = up_to_second z (lesser_of a s) b (r.no_lower z h)

-- ---- the least meeting, line by line

-- what is found before the lines that are left
pub record IsLeastBefore (lines left : List ActiveLine) (least : Option ℤ) : Type 0 where
  pub near : All HasNearLine left
  pub attained : IfSome least (SomeMeeting lines)
  pub rest : (z : ℤ) → SomeMeeting lines z → IsUpTo z least ⊎ SomeMeeting left z
  pub within : (z : ℤ) → SomeMeeting left z → SomeMeeting lines z

module _ (lines : List ActiveLine) (l : ActiveLine) (left : List ActiveLine) (least seam : Option ℤ)
    (found : IsLeastBefore lines (l ∷ left) least) (s : IsSeam (l ∷ []) left seam) where
  seam_within : (o : Option ℤ) → IfSome o (MeetAtSeam (l ∷ []) left) → IfSome o (SomeMeeting lines)
  seam_within None h = tt
  seam_within (Some y) h = found.within y (first_seam l left y h)

  by_rest : (z : ℤ) → MeetAtSeam (l ∷ []) left z ⊎ SomeMeeting left z → IsUpTo z (lesser_of least seam) ⊎ SomeMeeting left z
  by_rest z (inl h) = inl (up_to_second z least seam (up_to_this z seam (s.only z h)))
  by_rest z (inr h) = inr h

  by_least : (z : ℤ) → IsUpTo z least ⊎ SomeMeeting (l ∷ left) z → IsUpTo z (lesser_of least seam) ⊎ SomeMeeting left z
  by_least z (inl h) = inl (up_to_first z least seam h)
  by_least z (inr h) = by_rest z (seam_or_later l left z h)

  pub least_more : IsLeastBefore lines left (lesser_of least seam)
  least_more = record {
    near = All-tail HasNearLine l left found.near;
    attained = lesser_some (SomeMeeting lines) least seam found.attained (seam_within seam s.attained);
    rest = λ z h. by_least z (found.rest z h);
    within = λ z h. found.within z (later_meeting l left z h);
  }

-- ---- the leftmost meeting, line by line

-- the leftmost meeting at the Y isn't before the lines that are left
pub record IsNoneBefore (lines left : List ActiveLine) (y : ℤ) : Type 0 where
  pub near : All HasNearLine left
  pub some : (l : ActiveLine) → IsFirstMeeting left y l → IsFirstMeeting lines y l
  pub none : SomeMeeting lines y → SomeMeeting left y

-- the first of a list with one more at its end
begins_same : (k : ActiveLine) (l : ActiveLine) (left : List ActiveLine) (m : ActiveLine) (right : List ActiveLine) (y : ℤ)
    → MeetAtSeam (k ∷ []) (left ++ l ∷ []) y → MeetAtSeam (k ∷ []) (left ++ (l ∷ m ∷ right)) y
begins_same k l [] m right y h = h
begins_same k l (n ∷ left) m right y h = h

not_earlier : (k : ActiveLine) (lines : List ActiveLine) (y : ℤ) (l : ActiveLine) → (MeetAtSeam (k ∷ []) lines y → ⊥)
    → (h : IsFirstMeeting lines y l) → MeetAtSeam (k ∷ []) (h.left ++ l ∷ []) y ⊎ SomeMeeting (h.left ++ l ∷ []) y → ⊥
not_earlier k lines y l never h (inl s) = never (subst (λ (xs : List ActiveLine). MeetAtSeam (k ∷ []) xs y) (sym h.split)
    (begins_same k l h.left h.m h.right y s))
not_earlier k lines y l never h (inr s) = h.none_before s

-- the leftmost meeting of the lines after one that meets none is that of all
pub first_later : (k : ActiveLine) (lines : List ActiveLine) (y : ℤ) (l : ActiveLine) → (MeetAtSeam (k ∷ []) lines y → ⊥)
    → IsFirstMeeting lines y l → IsFirstMeeting (k ∷ lines) y l
first_later k lines y l never h = record {
  left = k ∷ h.left;
  m = h.m;
  right = h.right;
  split = ap (λ (xs : List ActiveLine). k ∷ xs) h.split;
  meets = h.meets;
  none_before = λ s. not_earlier k lines y l never h (seam_or_later k (h.left ++ l ∷ []) y s);
}

pub first_here : (l : ActiveLine) (lines : List ActiveLine) (y : ℤ) → MeetAtSeam (l ∷ []) lines y → IsFirstMeeting (l ∷ lines) y l
first_here l [] y h = absurd h
first_here l (m ∷ lines) y h = record { left = []; m = m; right = lines; split = refl; meets = h; none_before = λ s. s }

later_only : (l : ActiveLine) (left : List ActiveLine) (y : ℤ) → (MeetAtSeam (l ∷ []) left y → ⊥)
    → MeetAtSeam (l ∷ []) left y ⊎ SomeMeeting left y → SomeMeeting left y
later_only l left y never (inl h) = absurd (never h)
later_only l left y never (inr h) = h

pub none_more : (lines : List ActiveLine) (l : ActiveLine) (left : List ActiveLine) (y : ℤ) → IsNoneBefore lines (l ∷ left) y
    → (MeetAtSeam (l ∷ []) left y → ⊥) → IsNoneBefore lines left y
none_more lines l left y found never = record {
  near = All-tail HasNearLine l left found.near;
  some = λ k h. found.some k (first_later l left y k never h);
  none = λ h. later_only l left y never (seam_or_later l left y (found.none h));
}

-- the meeting of a line with the first of those after it, by the test of a Y
pub seam_at : (l : ActiveLine) (left : List ActiveLine) (seam : Option ℤ) (y : ℤ) → IsSeam (l ∷ []) left seam → seam ≡ Some y → MeetAtSeam (l ∷ []) left y
seam_at l left seam y s e = subst (λ (o : Option ℤ). IfSome o (MeetAtSeam (l ∷ []) left)) e s.attained
