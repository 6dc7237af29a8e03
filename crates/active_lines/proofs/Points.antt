-- Lines from left to right at a Y, in chunks, cut at a point.
use Rattle.std.proofs.Common.{ℕ, ℤ, ◌≡◌, ◌+◌, ◌<◌, ◌≤◌, ◌≤ℤ◌, ◌⊎◌, inl, inr, List, [], ◌∷◌, ◌++◌, Some, All, length, take, drop, arith, ap, subst, sym, ◌∙◌}
use Rattle.std.proofs.lemmas.Int.{ints}
use Rattle.std.proofs.lemmas.Bool.{cases_lt}
use Rattle.std.proofs.lemmas.List.{take_all, take-append-drop}
use Rattle.std.proofs.lemmas.List.Elements.{All-nil, All-cons, All-head, All-tail, All-append, All-weaker}
use Rattle.std.proofs.lemmas.List.Concat.{flat_map-append}
use Rattle.half_grid.specs.Lines.{x_on}
use Rattle.active_lines.specs.declared.item.ActiveLine.{ActiveLine}
use Rattle.active_lines.specs.ActiveLists.{last_of}
use Rattle.active_lines.specs.Points.{IsBefore, IsNotBefore, AscendAt, EndsNotBefore}
use Rattle.active_lines.specs.Chunked.{HasLine, chunk_at, lines_of, lines_before, lines_after, IsPlace}
use Rattle.active_lines.proofs.Lasts.{last_up_to}
use Rattle.active_lines.proofs.Places.{lines_from, place_in_chunk, chunk_full}

pub all_left : (P : ActiveLine → Type 0) (xs ys : List ActiveLine) → All P (xs ++ ys) → All P xs
all_left P [] ys a = All-nil P
all_left P (l ∷ xs) ys a = All-cons P l xs (All-head P l (xs ++ ys) a) (all_left P xs ys (All-tail P l (xs ++ ys) a))

pub ascend_left : (y : ℤ) (xs ys : List ActiveLine) → AscendAt y (xs ++ ys) → AscendAt y xs
ascend_left y [] ys a = tt
ascend_left y (l ∷ xs) ys a = (all_left (λ (m : ActiveLine). x_on l.line y ≤ℤ x_on m.line y) xs ys a.0, ascend_left y xs ys a.1)

pub ascend_right : (y : ℤ) (xs ys : List ActiveLine) → AscendAt y (xs ++ ys) → AscendAt y ys
ascend_right y [] ys a = a
ascend_right y (l ∷ xs) ys a = ascend_right y xs ys a.1

-- where the last line is left of the point all are
pub all_before : (x y : ℤ) (lines : List ActiveLine) (l : ActiveLine) → AscendAt y lines → last_of lines ≡ Some l → IsBefore x y l → All (IsBefore x y) lines
all_before x y [] l a e h = All-nil (IsBefore x y)
all_before x y (k ∷ []) l a e h = let same : k ≡ l = cc in All-cons (IsBefore x y) k [] (subst (IsBefore x y) (sym same) h) (All-nil (IsBefore x y))
all_before x y (k ∷ m ∷ lines) l a e h =
    let rest = all_before x y (m ∷ lines) l a.1 e h in
    let next = All-head (IsBefore x y) m lines rest in
    let le = All-head (λ (n : ActiveLine). x_on k.line y ≤ℤ x_on n.line y) m lines a.0 in
    All-cons (IsBefore x y) k (m ∷ lines) (omega (arith, ints, le, next)) rest

-- where the last line isn't left of the point, none after it is
pub none_after : (x y : ℤ) (xs ys : List ActiveLine) → AscendAt y (xs ++ ys) → EndsNotBefore x y xs → All (IsNotBefore x y) ys
none_after x y [] ys a h = absurd h
none_after x y (l ∷ []) ys a h = All-weaker (λ (m : ActiveLine). x_on l.line y ≤ℤ x_on m.line y) (IsNotBefore x y) (λ m le. omega (arith, ints, le, h)) ys a.0
none_after x y (l ∷ m ∷ xs) ys a h = none_after x y (m ∷ xs) ys a.1 h

pub ends_not : (x y : ℤ) (lines : List ActiveLine) (l : ActiveLine) → last_of lines ≡ Some l → IsNotBefore x y l → EndsNotBefore x y lines
ends_not x y [] l e h = absurd (cc)
ends_not x y (k ∷ []) l e h = let same : k ≡ l = cc in subst (IsNotBefore x y) (sym same) h
ends_not x y (k ∷ m ∷ lines) l e h = ends_not x y (m ∷ lines) l e h

not_both : (x y : ℤ) (lines : List ActiveLine) → All (IsBefore x y) lines → EndsNotBefore x y lines → ⊥
not_both x y [] a h = h
not_both x y (l ∷ []) a h = let less = All-head (IsBefore x y) l [] a in omega (arith, ints, less, h)
not_both x y (l ∷ m ∷ lines) a h = not_both x y (m ∷ lines) (All-tail (IsBefore x y) l (m ∷ lines) a) h

inside_by : (x y : ℤ) (lines : List ActiveLine) (k : ℕ) → All (IsBefore x y) (take k lines) → EndsNotBefore x y lines
    → (k < length lines) ⊎ (length lines ≤ k) → k < length lines
inside_by x y lines k a h (inl less) = less
inside_by x y lines k a h (inr le) = absurd (not_both x y lines (subst (All (IsBefore x y)) (take_all k lines le) a) h)

-- ---- in chunks

module _ (chunks : List (List ActiveLine)) (y : ℤ) (full : All HasLine chunks) (ascend : AscendAt y (lines_of chunks)) where
  cut_at : (c : ℕ) → AscendAt y (lines_of (take c chunks) ++ lines_of (drop c chunks))
  cut_at c = subst (AscendAt y) (sym (sym (flat_map-append (λ (lines : List ActiveLine). lines) (take c chunks) (drop c chunks))
      ∙ ap lines_of (take-append-drop c chunks))) ascend

  chunk_on : (c : ℕ) → c < length chunks → AscendAt y (chunk_at chunks c ++ lines_of (drop (c + 1) chunks))
  chunk_on c inside = subst (AscendAt y) (lines_from chunks c inside) (ascend_right y (lines_of (take c chunks)) (lines_of (drop c chunks)) (cut_at c))

  pub chunk_ascends : (c : ℕ) → c < length chunks → AscendAt y (chunk_at chunks c)
  chunk_ascends c inside = ascend_left y (chunk_at chunks c) (lines_of (drop (c + 1) chunks)) (chunk_on c inside)

  pub chunks_before : (x : ℤ) (c : ℕ) (l : ActiveLine) → c < length chunks → last_of (chunk_at chunks c) ≡ Some l
      → IsBefore x y l → All (IsBefore x y) (lines_of (take (c + 1) chunks))
  chunks_before x c l inside e h =
      all_before x y (lines_of (take (c + 1) chunks)) l (ascend_left y (lines_of (take (c + 1) chunks))
      (lines_of (drop (c + 1) chunks)) (cut_at (c + 1))) (last_up_to chunks c inside (chunk_full chunks c full inside) ∙ e) h

  module _ (x : ℤ) (c k : ℕ) (inside : c < length chunks) (ends : EndsNotBefore x y (chunk_at chunks c))
      (front : All (IsBefore x y) (take k (chunk_at chunks c))) where
    pub point_place : IsPlace chunks c k
    point_place = place_in_chunk chunks c k full inside (inside_by x y (chunk_at chunks c) k front ends (cases_lt k (length (chunk_at chunks c))))

    pub point_before : All (IsBefore x y) (lines_of (take c chunks)) → All (IsBefore x y) (lines_before chunks c k)
    point_before left = All-append (IsBefore x y) (lines_of (take c chunks)) (take k (chunk_at chunks c)) left front

    pub point_after : All (IsNotBefore x y) (drop k (chunk_at chunks c)) → All (IsNotBefore x y) (lines_after chunks c k)
    point_after back = All-append (IsNotBefore x y) (drop k (chunk_at chunks c)) (lines_of (drop (c + 1) chunks)) back
        (none_after x y (chunk_at chunks c) (lines_of (drop (c + 1) chunks)) (chunk_on c inside) ends)
