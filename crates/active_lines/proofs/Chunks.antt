-- What edits of a list of lines keep.
use Rattle.std.proofs.Common.{ℕ, ℤ, ◌≡◌, ◌-◌, ◌<◌, inl, inr, zero, suc, List, [], ◌∷◌, Option, Some, None, All, length}
use Rattle.std.proofs.Common.{take, drop, get_or, set, arith, ap, subst, sym, refl, ◌∙◌}
use Rattle.std.proofs.lemmas.List.{take-append-drop, set-set, set-get_or, get_or-set_same}
use Rattle.std.proofs.lemmas.List.Elements.{All-append, All-take, All-drop, All-cons, All-set}
use Rattle.std.specs.List.{insert, HoldsAt}
use Rattle.half_grid.specs.declared.plane.Line.{Line}
use Rattle.active_lines.specs.declared.item.ActiveLine.{ActiveLine}
use Rattle.active_lines.specs.declared.chunk.Least.{Least}
use Rattle.active_lines.specs.declared.chunk.Least.TheVariants.{Unknown, Known}
use Rattle.active_lines.specs.ActiveLists.{last_of}
use Rattle.active_lines.specs.Leaning.{MeetAbove, IsNearLine}
use Rattle.active_lines.specs.Neighbours.{SomeMeeting, IsLeastMeeting}
use Rattle.active_lines.specs.Chunked.{HasNearLine, IsKept, IsChunk, HasLine}
use Rattle.active_lines.proofs.Meeting.{meeting_right}

pub meeting_drop : (k : ℕ) (lines : List ActiveLine) (y : ℤ) → SomeMeeting (drop k lines) y → SomeMeeting lines y
meeting_drop k lines y h = subst (λ (xs : List ActiveLine). SomeMeeting xs y) (take-append-drop k lines) (meeting_right (take k lines) (drop k lines) y h)

pub near_insert : (lines : List ActiveLine) (k : ℕ) (l : ActiveLine) → All HasNearLine lines → HasNearLine l → All HasNearLine (insert lines k l)
near_insert lines k l a near = All-append HasNearLine (take k lines) (l ∷ drop k lines) (All-take HasNearLine k lines a)
    (All-cons HasNearLine l (drop k lines) near (All-drop HasNearLine k lines a))

pub last_is : (lines : List ActiveLine) (d : ActiveLine) → HasLine lines → last_of lines ≡ Some (get_or lines (length lines - 1) d)
last_is [] d h = absurd (omega (arith, h))
last_is (l ∷ []) d h = refl
last_is (l ∷ m ∷ lines) d h =
    let rest = last_is (m ∷ lines) d (omega arith) in
    let e : length (l ∷ m ∷ lines) - 1 ≡ suc (length (m ∷ lines) - 1) = omega arith in
    rest ∙ sym (ap (λ (n : ℕ). Some (get_or (l ∷ m ∷ lines) n d)) e)

-- a meeting depends on the lines alone
pub meeting_set : (lines : List ActiveLine) (k : ℕ) (l : ActiveLine) (d : ActiveLine) (y : ℤ) → l.line ≡ (get_or lines k d).line
    → SomeMeeting lines y → SomeMeeting (set lines k l) y
meeting_set [] k l d y e h = absurd h
meeting_set (a ∷ []) k l d y e h = absurd h
meeting_set (a ∷ b ∷ lines) zero l d y e (inl h) = inl (subst (λ (line : Line). MeetAbove line b.line y) (sym e) h)
meeting_set (a ∷ b ∷ lines) zero l d y e (inr h) = inr h
meeting_set (a ∷ b ∷ lines) (suc zero) l d y e (inl h) = inl (subst (λ (line : Line). MeetAbove a.line line y) (sym e) h)
meeting_set (a ∷ b ∷ lines) (suc zero) l d y e (inr h) = inr (meeting_set (b ∷ lines) zero l d y e h)
meeting_set (a ∷ b ∷ lines) (suc (suc k)) l d y e (inl h) = inl h
meeting_set (a ∷ b ∷ lines) (suc (suc k)) l d y e (inr h) = inr (meeting_set (b ∷ lines) (suc k) l d y e h)

pub meeting_unset : (lines : List ActiveLine) (k : ℕ) (l : ActiveLine) (d : ActiveLine) (y : ℤ) → k < length lines
    → l.line ≡ (get_or lines k d).line → SomeMeeting (set lines k l) y → SomeMeeting lines y
meeting_unset lines k l d y inside e h =
    let back : set (set lines k l) k (get_or lines k d) ≡ lines = set-set lines k l (get_or lines k d) ∙ set-get_or lines k d in
    let same : (get_or lines k d).line ≡ (get_or (set lines k l) k d).line = sym e
    ∙ sym (ap (λ (m : ActiveLine). m.line) (get_or-set_same lines k l d inside)) in
    subst (λ (xs : List ActiveLine). SomeMeeting xs y) back (meeting_set (set lines k l) k (get_or lines k d) d y same h)

least_set : (lines : List ActiveLine) (k : ℕ) (l : ActiveLine) (d : ActiveLine) (least : Option ℤ) → k < length lines
    → l.line ≡ (get_or lines k d).line → IsLeastMeeting lines least → IsLeastMeeting (set lines k l) least
least_set lines k l d None inside e h = record { attained = tt; no_lower = λ z s. h.no_lower z (meeting_unset lines k l d z inside e s) }
least_set lines k l d (Some y) inside e h = record {
  attained = meeting_set lines k l d y e h.attained;
  no_lower = λ z s. h.no_lower z
      (meeting_unset lines k l d z inside e s);
}

kept_set : (lines : List ActiveLine) (k : ℕ) (l : ActiveLine) (d : ActiveLine) (least : Least) → k < length lines
    → l.line ≡ (get_or lines k d).line → IsKept lines least → IsKept (set lines k l) least
kept_set lines k l d Unknown inside e h = tt
kept_set lines k l d (Known least) inside e h = least_set lines k l d least inside e h

pub chunk_set : (lines : List ActiveLine) (k : ℕ) (l : ActiveLine) (least : Least) → k < length lines
    → HoldsAt (λ (m : ActiveLine). l.line ≡ m.line) lines k → IsChunk lines least → IsChunk (set lines k l) least
chunk_set lines k l least inside same h = record {
  near = All-set HasNearLine lines k l (subst IsNearLine (sym (same l)) (h.near k l inside)) h.near;
  kept = kept_set lines k l l least inside (same l) h.kept;
}
