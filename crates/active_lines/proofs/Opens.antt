-- The last line before a place at which a trapezoid is open.
use Rattle.std.proofs.Common.{ℕ, ◌≡◌, ◌+◌, ◌-◌, ◌<◌, ◌≤◌, zero, suc, ◌⊎◌, inl, inr, List, [], ◌∷◌, ◌++◌, All, length}
use Rattle.std.proofs.Common.{take, drop, set, arith, ap, subst, sym, refl, ◌∙◌, append_assoc, length-append}
use Rattle.std.proofs.lemmas.List.{take-append-drop, take-take, append-nil, take_more, get_or_past, length-take-le, set_at, set-append_left, set-append_right}
use Rattle.std.proofs.lemmas.List.Elements.{All-append}
use Rattle.std.proofs.lemmas.Bool.{cases_lt}
use Rattle.std.specs.List.{HoldsAt}
use Rattle.active_lines.specs.declared.item.ActiveLine.{ActiveLine}
use Rattle.active_lines.specs.declared.item.Opened.{Opened}
use Rattle.active_lines.specs.ActiveLists.{IsShut, IsReopened, reopened}
use Rattle.active_lines.specs.Chunked.{chunk_at, lines_of, lines_before, IsOpenUpTo}
use Rattle.active_lines.proofs.Places.{lines_up_to}

pub open_here : (chunks : List (List ActiveLine)) (c k n : ℕ) → k ≤ length (chunk_at chunks c) → n ≤ k
    → All IsShut (drop n (take k (chunk_at chunks c))) → (0 < n → HoldsAt (λ (l : ActiveLine). IsShut l → ⊥) (chunk_at chunks c) (n - 1))
    → IsOpenUpTo chunks c k c n
open_here chunks c k n inside within shut there = record {
  up_to = omega arith;
  within = λ _. within;
  inside = omega (arith, inside, within);
  right = drop n (take k (chunk_at chunks c));
  split =
      ap (λ (lines : List ActiveLine). lines_of (take c chunks) ++ lines)
      (sym (take-append-drop n (take k (chunk_at chunks c)))
      ∙ ap (λ (lines : List ActiveLine). lines ++ drop n (take k (chunk_at chunks c))) (take-take n k (chunk_at chunks c) within))
      ∙ sym (append_assoc (lines_of (take c chunks)) (take n (chunk_at chunks c)) (drop n (take k (chunk_at chunks c))));
  shut = shut;
  open_there = there;
}

-- one chunk further to the left
pub open_further : (chunks : List (List ActiveLine)) (c k b n : ℕ) → b < length chunks → IsOpenUpTo chunks c k (b + 1) 0
    → n ≤ length (chunk_at chunks b) → All IsShut (drop n (chunk_at chunks b))
    → (0 < n → HoldsAt (λ (l : ActiveLine). IsShut l → ⊥) (chunk_at chunks b) (n - 1)) → IsOpenUpTo chunks c k b n
open_further chunks c k b n inside found few shut there = record {
  up_to = omega (arith, found.up_to);
  within = λ e. absurd (omega (arith, found.up_to, e));
  inside = few;
  right = drop n (chunk_at chunks b) ++ found.right;
  split =
      found.split
      ∙ (ap (λ (lines : List ActiveLine). lines ++ found.right)
      (append-nil (lines_of (take (b + 1) chunks))
      ∙ (lines_up_to chunks b inside
      ∙ (ap (λ (lines : List ActiveLine). lines_of (take b chunks) ++ lines) (sym (take-append-drop n (chunk_at chunks b)))
      ∙ sym (append_assoc (lines_of (take b chunks)) (take n (chunk_at chunks b)) (drop n (chunk_at chunks b))))))
      ∙ append_assoc (lines_before chunks b n) (drop n (chunk_at chunks b)) found.right);
  shut = All-append IsShut (drop n (chunk_at chunks b)) found.right shut found.shut;
  open_there = there;
}

-- ---- the line in the list of all before the place

take_changed : (xs : List ActiveLine) (k i : ℕ) (l : ActiveLine) → take k (set xs i l) ≡ set (take k xs) i l
take_changed xs zero i l = refl
take_changed [] (suc k) i l = refl
take_changed (a ∷ xs) (suc k) zero l = refl
take_changed (a ∷ xs) (suc k) (suc i) l = ap (λ (ys : List ActiveLine). a ∷ ys) (take_changed xs k i l)

pub set_before : (chunks : List (List ActiveLine)) (c k b i : ℕ) (l : ActiveLine) → b ≤ c → b < length chunks → i < length (chunk_at chunks b)
    → lines_before (set chunks b (set (chunk_at chunks b) i l)) c k ≡ set (lines_before chunks c k) (length (lines_of (take b chunks)) + i) l
set_before [] c k b i l le h few = absurd (omega (arith, h))
set_before (xs ∷ rest) zero k zero i l le h few = let e : i ≡ 0 + i = omega arith in take_changed xs k i l ∙ ap (λ (n : ℕ). set (take k xs) n l) e
set_before (xs ∷ rest) (suc c) k zero i l le h few =
    let e : i ≡ 0 + i = omega arith in
    let left : i < length (xs ++ lines_of (take c rest)) = omega (arith, few, length-append xs (lines_of (take c rest))) in
    sym
    (ap (λ (n : ℕ). set (lines_before (xs ∷ rest) (suc c) k) n l) (sym e)
    ∙ (set-append_left (xs ++ lines_of (take c rest)) (take k (chunk_at rest c)) i l left
    ∙ ap (λ (ys : List ActiveLine). ys ++ take k (chunk_at rest c)) (set-append_left xs (lines_of (take c rest)) i l few)))
set_before (xs ∷ rest) zero k (suc b) i l le h few = absurd (omega (arith, le))
set_before (xs ∷ rest) (suc c) k (suc b) i l le h few =
    let again = set_before rest c k b i l (omega (arith, le)) (omega (arith, h)) few in
    let n = length (lines_of (take b rest)) + i in
    let far : length (xs ++ lines_of (take b rest)) + i ≡ length xs + (length (lines_of (take b rest)) + i) = omega
    (arith, length-append xs (lines_of (take b rest))) in
    let back : (length xs + (length (lines_of (take b rest)) + i)) - length xs ≡ length (lines_of (take b rest)) + i = omega arith in
    append_assoc xs (lines_of (take c (set rest b (set (chunk_at rest b) i l)))) (take k (chunk_at (set rest b (set (chunk_at rest b) i l)) c))
    ∙ (ap (λ (ys : List ActiveLine). xs ++ ys) again
    ∙ sym
    (ap (λ (ys : List ActiveLine). set ys (length (xs ++ lines_of (take b rest)) + i) l) (append_assoc xs (lines_of (take c rest)) (take k (chunk_at rest c)))
    ∙ (ap (λ (m : ℕ). set (xs ++ lines_before rest c k) m l) far
    ∙ (set-append_right xs (lines_before rest c k) (length xs) (length xs + (length (lines_of (take b rest)) + i)) l refl (omega arith)
    ∙ ap (λ (m : ℕ). xs ++ set (lines_before rest c k) m l) back))))

-- the line that opens another trapezoid
module _ (chunks : List (List ActiveLine)) (c k b n : ℕ) (l : ActiveLine) (found : IsOpenUpTo chunks c k b n) (some : 0 < n)
    (is : HoldsAt (λ (m : ActiveLine). l ≡ m) (chunk_at chunks b) (n - 1)) where
  inside_by : (b < length chunks) ⊎ (length chunks ≤ b) → b < length chunks
  inside_by (inl h) = h
  inside_by (inr h) = let e = ap (λ (xs : List ActiveLine). length xs) (get_or_past chunks b [] h) in let few = found.inside in absurd
      (omega (arith, e, few, some))

  open_inside : b < length chunks
  open_inside = inside_by (cases_lt b (length chunks))

  less : n - 1 < length (chunk_at chunks b)
  less = let few = found.inside in omega (arith, few, some)

  cut : lines_before chunks c k ≡ (lines_of (take b chunks) ++ take (n - 1) (chunk_at chunks b)) ++ (l ∷ found.right)
  cut =
      let again : n ≡ (n - 1) + 1 = omega (arith, some) in
      let last : take n (chunk_at chunks b) ≡ take (n - 1) (chunk_at chunks b) ++ l ∷ [] =
      ap (λ (m : ℕ). take m (chunk_at chunks b)) again ∙ (take_more (chunk_at chunks b) (n - 1) l less
      ∙ ap (λ (m : ActiveLine). take (n - 1) (chunk_at chunks b) ++ m ∷ []) (sym (is l))) in
      found.split
      ∙ (ap (λ (xs : List ActiveLine). (lines_of (take b chunks) ++ xs) ++ found.right) last
      ∙ (ap (λ (xs : List ActiveLine). xs ++ found.right) (sym (append_assoc (lines_of (take b chunks)) (take (n - 1) (chunk_at chunks b)) (l ∷ [])))
      ∙ append_assoc (lines_of (take b chunks) ++ take (n - 1) (chunk_at chunks b)) (l ∷ []) found.right))

  at : length (lines_of (take b chunks) ++ take (n - 1) (chunk_at chunks b)) ≡ length (lines_of (take b chunks)) + (n - 1)
  at =
      let few = length-take-le (n - 1) (chunk_at chunks b) (let h = less in omega (arith, h)) in
      omega (arith, few, length-append (lines_of (take b chunks)) (take (n - 1) (chunk_at chunks b)))

  pub is_reopened : (o : Opened) (new : List (List ActiveLine)) → new ≡ set chunks b (set (chunk_at chunks b) (n - 1) (reopened o l))
      → IsReopened o (lines_before chunks c k) l (lines_before new c k)
  is_reopened o new e = record {
    left = lines_of (take b chunks) ++ take (n - 1) (chunk_at chunks b);
    right = found.right;
    split = cut;
    was_open = λ s. found.open_there some l (subst IsShut (is l) s);
    last = found.shut;
    new_is =
        ap (λ (xs : List (List ActiveLine)). lines_before xs c k) e
        ∙ (set_before chunks c k b (n - 1) (reopened o l) found.up_to open_inside less
        ∙ (ap (λ (xs : List ActiveLine). set xs (length (lines_of (take b chunks)) + (n - 1)) (reopened o l)) cut
        ∙ set_at (lines_of (take b chunks) ++ take (n - 1) (chunk_at chunks b)) l found.right (reopened o l) (length (lines_of (take b chunks)) + (n - 1)) at));
  }
