-- What edges add up to in a row, list by list.
use Rattle.std.proofs.Common.{◌≡◌, ℕ, ◌+◌, Bool, true, false, ◌&&◌, not, ℤ, pos, ◌+ℤ◌, ◌-ℤ◌, ◌≤ℤ◌, ◌<ℤ◌, arith, refl}
use Rattle.std.proofs.Common.{sym, ap, ◌∙◌, List, [], ◌∷◌, ◌++◌, count_by, append_assoc, Option}
use Rattle.std.proofs.lemmas.Int.{ints}
use Rattle.std.proofs.lemmas.List.Sums.{sum_by-append}
use Rattle.std.proofs.lemmas.List.Sorted.{sum_by-IsPermutation}
use Rattle.std.proofs.lemmas.List.Elements.{All-head, All-tail, All-weaker}
use Rattle.std.specs.List.{All}
use Rattle.std.specs.Option.{option_to_list}
use Rattle.std.specs.Prelude.{int_le, IsPermutation}
use Rattle.half_grid.specs.Lines.{strip_along, first_strip}
use Rattle.half_grid.specs.Rows.{place, number_in_row}
use Rattle.half_grid.specs.Winding.{count_one}
use Rattle.half_grid.specs.Edges.{EdgeParts, edges_winding, spans, is_of}
use Rattle.half_grid.specs.declared.plane.Tile.{Tile}
use Rattle.half_grid.specs.declared.plane.Line.{Line}
use Rattle.half_grid.specs.declared.border.Operand.{Operand}
use Rattle.half_grid.proofs.ForCallers.{count_by-cons, right_by_place, left_by_place, le_yes, le_no}
use Rattle.scan_line.specs.Actives.{SpansRow}
use Rattle.scan_line.specs.Runs.{IsBalancedAt}
use Rattle.column_sweep.specs.RowSums.{up_among, down_among, sum_among, any_line, row_sum, AddUpAlike}

-- whether the tile is right of the line
abbrev pub has_right : Tile → Line → Bool
has_right t line = int_le (first_strip line) (strip_along line t)

pub winding_is_sum : (o : Operand) (edges : List EdgeParts) (t : Tile) → edges_winding o edges t ≡ sum_among o t.j (has_right t) edges
unfolding edges_winding sum_among
winding_is_sum o edges t = refl

sum_of_differences : (a b c d e f : ℕ) → a ≡ c + e → b ≡ d + f → pos a -ℤ pos b ≡ (pos c -ℤ pos d) +ℤ (pos e -ℤ pos f)
sum_of_differences a b c d e f h k = omega (arith, ints)

module _ (o : Operand) (j : ℤ) (some : Line → Bool) where
  pub sum_nil : sum_among o j some [] ≡ pos 0
  unfolding sum_among
  sum_nil = refl

  pub sum_append : (xs ys : List EdgeParts) → sum_among o j some (xs ++ ys) ≡ sum_among o j some xs +ℤ sum_among o j some ys
  unfolding sum_among
  sum_append xs ys = sum_of_differences _ _ _ _ _ _ (sum_by-append _ xs ys) (sum_by-append _ xs ys)

  pub sum_cons : (e : EdgeParts) (ys : List EdgeParts) → sum_among o j some (e ∷ ys) ≡ sum_among o j some (e ∷ []) +ℤ sum_among o j some ys
  sum_cons e ys = sum_append (e ∷ []) ys

  pub sum_permuted : (xs ys : List EdgeParts) → IsPermutation xs ys → sum_among o j some ys ≡ sum_among o j some xs
  unfolding sum_among
  sum_permuted xs ys h = rw (sum_by-IsPermutation _ xs ys h, sum_by-IsPermutation _ xs ys h) refl

count_same : (p q : EdgeParts → Bool) (edges : List EdgeParts) → All (λ e. p e ≡ q e) edges → count_by p edges ≡ count_by q edges
count_same p q [] h = refl
count_same p q (e ∷ edges) h =
    let first = All-head (λ f. p f ≡ q f) e edges h in
    let later = count_same p q edges (All-tail (λ f. p f ≡ q f) e edges h) in
    count_by-cons p e edges ∙ (rw (first, later) (sym (count_by-cons q e edges)))

count_equal : (p q : EdgeParts → Bool) (edges : List EdgeParts) → ((e : EdgeParts) → p e ≡ q e) → count_by p edges ≡ count_by q edges
count_equal p q edges h = count_same p q edges (λ k d lt. h _)

-- where two tests agree on the edges that span the row, they add up to the same
pub sum_alike : (o : Operand) (j : ℤ) (some other : Line → Bool) (edges : List EdgeParts)
    → All (λ e. (spans e j && some e.line) ≡ (spans e j && other e.line)) edges
    → sum_among o j some edges ≡ sum_among o j other edges
unfolding sum_among
sum_alike o j some other edges h =
    let Alike : EdgeParts → Type 0 = λ e. (spans e j && some e.line) ≡ (spans e j && other e.line) in
    let up = count_same (up_among o j some) (up_among o j other) edges
    (All-weaker Alike (λ e. up_among o j some e ≡ up_among o j other e)
    (λ e k. ap (λ (b : Bool). is_of o e.operand && (e.up && b)) k) edges h) in
    let down = count_same (down_among o j some) (down_among o j other) edges
    (All-weaker Alike (λ e. down_among o j some e ≡ down_among o j other e)
    (λ e k. ap (λ (b : Bool). is_of o e.operand && (not e.up && b)) k) edges h) in
    rw (up, down) refl

no_line : Line → Bool
no_line line = false

and_false : (p q r : Bool) → (p && (q && (r && false))) ≡ false
and_false true true true = refl
and_false true true false = refl
and_false true false r = refl
and_false false q r = refl

count_nothing : (p : EdgeParts → Bool) (edges : List EdgeParts) → ((e : EdgeParts) → p e ≡ false) → count_by p edges ≡ 0
count_nothing p [] h = refl
count_nothing p (e ∷ edges) h = count_by-cons p e edges ∙ (rw (h e, count_nothing p edges h) refl)

sum_no_line : (o : Operand) (j : ℤ) (edges : List EdgeParts) → sum_among o j (λ line. false) edges ≡ pos 0
unfolding sum_among
sum_no_line o j edges =
    let up = count_nothing (up_among o j (λ line. false)) edges (λ e. and_false (is_of o e.operand) e.up (spans e j)) in
    let down = count_nothing (down_among o j (λ line. false)) edges (λ e. and_false (is_of o e.operand) (not e.up) (spans e j)) in
    rw (up, down) refl

-- where no edge that spans the row passes the test, they add up to nothing
pub sum_none : (o : Operand) (j : ℤ) (some : Line → Bool) (edges : List EdgeParts)
    → All (λ e. (spans e j && some e.line) ≡ (spans e j && false)) edges → sum_among o j some edges ≡ pos 0
sum_none o j some edges h = sum_alike o j some (λ line. false) edges h ∙ sum_no_line o j edges

and_true : (p q r : Bool) → (p && (q && (r && true))) ≡ (p && (q && r))
and_true true true true = refl
and_true true true false = refl
and_true true false r = refl
and_true false q r = refl

up_in_row : (o : Operand) (j : ℤ) (edges : List EdgeParts) → count_by (up_among o j any_line) edges ≡ count_by
    (λ e. is_of o e.operand && (e.up && spans e j)) edges
up_in_row o j edges = count_equal _ _ edges (λ e. and_true (is_of o e.operand) e.up (spans e j))

down_in_row : (o : Operand) (j : ℤ) (edges : List EdgeParts) → count_by (down_among o j any_line) edges ≡ count_by
    (λ e. is_of o e.operand && (not e.up && spans e j)) edges
down_in_row o j edges = count_equal _ _ edges (λ e. and_true (is_of o e.operand) (not e.up) (spans e j))

equal_by_difference : (a b : ℕ) → pos a -ℤ pos b ≡ pos 0 → a ≡ b
equal_by_difference a b h = omega (arith, ints, h)

-- balance in a row is a sum of 0
pub balanced_by_sum : (o : Operand) (j : ℤ) (edges : List EdgeParts) → row_sum o j edges ≡ pos 0 → IsBalancedAt edges o j
unfolding sum_among
balanced_by_sum o j edges h = sym (up_in_row o j edges) ∙ (equal_by_difference _ _ h ∙ down_in_row o j edges)

pub sum_by_balance : (o : Operand) (j : ℤ) (edges : List EdgeParts) → IsBalancedAt edges o j → row_sum o j edges ≡ pos 0
unfolding sum_among
sum_by_balance o j edges h = let same = up_in_row o j edges ∙ (h ∙ sym (down_in_row o j edges)) in rw same (omega (arith, ints))

span_from : (e : EdgeParts) (j : ℤ) → spans e j ≡ true → SpansRow j e
span_from e j h = record { from = grind (arith, ints, h); below = grind (arith, ints, h) }

right_if : (t : Tile) (e : EdgeParts) (b : Bool) → spans e t.j ≡ b
    → (SpansRow t.j e → place e.line t.j ≤ℤ number_in_row t) → (b && has_right t e.line) ≡ (b && true)
right_if t e true s h = le_yes _ _ (right_by_place t e.line (h (span_from e t.j s)))
right_if t e false s h = refl

left_if : (t : Tile) (e : EdgeParts) (b : Bool) → spans e t.j ≡ b
    → (SpansRow t.j e → number_in_row t <ℤ place e.line t.j) → (b && has_right t e.line) ≡ (b && false)
left_if t e true s h = le_no _ _ (left_by_place t e.line (h (span_from e t.j s)))
left_if t e false s h = refl

-- a tile that has all edges of its row on its left is wound round by their sum, one that has none by nothing
pub right_of_all : (o : Operand) (t : Tile) (edges : List EdgeParts)
    → All (λ e. SpansRow t.j e → place e.line t.j ≤ℤ number_in_row t) edges
    → edges_winding o edges t ≡ row_sum o t.j edges
right_of_all o t edges h =
    winding_is_sum o edges t
    ∙ sum_alike o t.j (has_right t) any_line edges
    (All-weaker (λ e. SpansRow t.j e → place e.line t.j ≤ℤ number_in_row t)
    (λ e. (spans e t.j && has_right t e.line) ≡ (spans e t.j && true))
    (λ e k. right_if t e (spans e t.j) refl k) edges h)

pub left_of_all : (o : Operand) (t : Tile) (edges : List EdgeParts)
    → All (λ e. SpansRow t.j e → number_in_row t <ℤ place e.line t.j) edges → edges_winding o edges t ≡ pos 0
left_of_all o t edges h =
    winding_is_sum o edges t
    ∙ sum_none o t.j (has_right t) edges
    (All-weaker (λ e. SpansRow t.j e → number_in_row t <ℤ place e.line t.j)
    (λ e. (spans e t.j && has_right t e.line) ≡ (spans e t.j && false))
    (λ e k. left_if t e (spans e t.j) refl k) edges h)

count_single : (p : EdgeParts → Bool) (e : EdgeParts) → count_by p (e ∷ []) ≡ count_one (p e)
count_single p e = count_by-cons p e [] ∙ (omega arith)

pub sum_one : (o : Operand) (j : ℤ) (some : Line → Bool) (e : EdgeParts)
    → sum_among o j some (e ∷ []) ≡ pos (count_one (up_among o j some e)) -ℤ pos (count_one (down_among o j some e))
unfolding sum_among
sum_one o j some e = rw (count_single (up_among o j some) e, count_single (down_among o j some) e) refl

-- ---- lists that add up alike

pub alike_refl : (xs : List EdgeParts) → AddUpAlike xs xs
alike_refl xs o j some = refl

pub alike_trans : (xs ys zs : List EdgeParts) → AddUpAlike xs ys → AddUpAlike ys zs → AddUpAlike xs zs
alike_trans xs ys zs h k o j some = h o j some ∙ k o j some

pub alike_append : (xs ys us vs : List EdgeParts) → AddUpAlike xs ys → AddUpAlike us vs → AddUpAlike (xs ++ us) (ys ++ vs)
alike_append xs ys us vs h k o j some = sum_append o j some xs us ∙ (rw (h o j some, k o j some) (sym (sum_append o j some ys vs)))

pub winding_alike : (o : Operand) (t : Tile) (xs ys : List EdgeParts) → AddUpAlike xs ys → edges_winding o xs t ≡ edges_winding o ys t
winding_alike o t xs ys h = winding_is_sum o xs t ∙ (h o t.j (has_right t) ∙ sym (winding_is_sum o ys t))

pub balanced_alike : (o : Operand) (j : ℤ) (xs ys : List EdgeParts) → AddUpAlike xs ys → IsBalancedAt ys o j → IsBalancedAt xs o j
balanced_alike o j xs ys h k = balanced_by_sum o j xs (h o j any_line ∙ sum_by_balance o j ys k)

-- what is put in the place of the last edge and one more
pub alike_behind : (all front rests : List EdgeParts) (e f : EdgeParts) → all ≡ front ++ e ∷ []
    → AddUpAlike rests (e ∷ f ∷ []) → AddUpAlike (front ++ rests) (all ++ f ∷ [])
alike_behind all front rests e f is h o j some =
    let rest = h o j some in
    let two = sum_cons o j some e (f ∷ []) in
    rw (
      is,
      sum_append o j some front rests,
      sum_append o j some (front ++ e ∷ []) (f ∷ []),
      sum_append o j some front
          (e ∷ []),
    ) (omega (arith, ints, rest, two))

-- four parts put one after another
pub four_put : (xs ys zs us vs : List EdgeParts) (a b c d p q r s : Option EdgeParts) → ys ≡ xs ++ option_to_list a
    → zs ≡ ys ++ option_to_list b → us ≡ zs ++ option_to_list c → vs ≡ us ++ option_to_list d
    → a ≡ p → b ≡ q → c ≡ r → d ≡ s → vs ≡ xs ++ (option_to_list p ++ (option_to_list q ++ (option_to_list r ++ option_to_list s)))
four_put xs ys zs us vs a b c d p q r s hy hz hu hv ha hb hc hd =
    rw (hv, hu, hz, hy, ha, hb, hc, hd)
    (append_assoc ((xs ++ option_to_list p) ++ option_to_list q) (option_to_list r) (option_to_list s)
    ∙ (append_assoc (xs ++ option_to_list p) (option_to_list q) (option_to_list r ++ option_to_list s)
    ∙ append_assoc xs (option_to_list p) (option_to_list q ++ (option_to_list r ++ option_to_list s))))
