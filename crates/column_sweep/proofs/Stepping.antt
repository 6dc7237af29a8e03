-- The levels at which sums over rows change, and upright edges made of them.
use Rattle.std.proofs.Common.{◌≡◌, ℕ, ◌+◌, Bool, true, false, ◌&&◌, not, ℤ, pos, ◌+ℤ◌, ◌-ℤ◌, ◌<ℤ◌, arith, refl}
use Rattle.std.proofs.Common.{sym, ap, ◌∙◌, subst, cond, List, [], ◌∷◌, ◌++◌, Some, None, length}
use Rattle.std.proofs.lemmas.Int.{ints}
use Rattle.std.proofs.lemmas.List.{length-append}
use Rattle.std.proofs.lemmas.List.Sums.{sum_by-append}
use Rattle.std.proofs.lemmas.List.Sorted.{sum_by-IsPermutation, length_permutation, All-permutation}
use Rattle.std.proofs.lemmas.List.Elements.{All-cons, All-nil, All-append, All-head, All-tail}
use Rattle.std.specs.List.{All}
use Rattle.std.specs.Option.{option_to_list}
use Rattle.std.specs.Prelude.{int_lt, int_le, IsPermutation, if◌then◌else◌}
use Rattle.half_grid.specs.Reach.{IsWithinReach}
use Rattle.half_grid.specs.Winding.{count_one}
use Rattle.half_grid.specs.Edges.{EdgeParts, IsEdge, edge_parts, spans, is_of}
use Rattle.half_grid.specs.declared.plane.Line.TheVariants.{Upright}
use Rattle.half_grid.specs.declared.border.Operand.{Operand}
use Rattle.half_grid.specs.declared.border.Operand.TheVariants.{A, B}
use Rattle.half_grid.proofs.ForCallers.{count_by-cons}
use Rattle.column_sweep.specs.declared.sums.Level.{Level}
use Rattle.column_sweep.specs.RowSums.{any_line, row_sum}
use Rattle.column_sweep.specs.Steps.{up_to, height, AreSteps}
use Rattle.column_sweep.specs.Parts.{AreSumsOf, AreSums}
use Rattle.column_sweep.proofs.Halving.{opposites}
use Rattle.column_sweep.proofs.Adding.{sum_nil, sum_one, sum_cons, sum_append}

abbrev Within : Level → Type 0
Within level = IsWithinReach level.y

-- ---- heights

pub height_nil : (j : ℤ) → height j [] [] ≡ pos 0
unfolding height
height_nil j = refl

pub height_cons : (j : ℤ) (r f : Level) (rises falls : List Level) → height j (r ∷ rises) (f ∷ falls) ≡ height j (r ∷ []) (f ∷ []) +ℤ height j rises falls
unfolding height
height_cons j r f rises falls =
    let a = count_by-cons (λ (level : Level). int_le level.y j) r rises in
    let b = count_by-cons (λ (level : Level). int_le level.y j) f falls in
    let c = count_by-cons (λ (level : Level). int_le level.y j) r [] in
    let d = count_by-cons (λ (level : Level). int_le level.y j) f [] in
    rw (a, b, c, d) (omega (arith, ints))

height_one : (j : ℤ) (r f : Level) → height j (r ∷ []) (f ∷ []) ≡ pos (count_one (int_le r.y j)) -ℤ pos (count_one (int_le f.y j))
unfolding height
height_one j r f =
    let c = count_by-cons (λ (level : Level). int_le level.y j) r [] in
    let d = count_by-cons (λ (level : Level). int_le level.y j) f [] in
    rw (c, d) (omega (arith, ints))

height_append : (j : ℤ) (rises falls rs fs : List Level) → height j (rises ++ rs) (falls ++ fs) ≡ height j rises falls +ℤ height j rs fs
unfolding height
height_append j rises falls rs fs =
    let a : up_to j (rises ++ rs) ≡ up_to j rises + up_to j rs = sum_by-append _ rises rs in
    let b : up_to j (falls ++ fs) ≡ up_to j falls + up_to j fs = sum_by-append _ falls fs in
    rw (a, b) (omega (arith, ints))

height_permuted : (j : ℤ) (rises falls rs fs : List Level) → IsPermutation rises rs → IsPermutation falls fs → height j rs fs ≡ height j rises falls
unfolding height
height_permuted j rises falls rs fs h k = rw (sum_by-IsPermutation _ rises rs h, sum_by-IsPermutation _ falls fs k) refl

-- ---- the steps of edges

below_top : (p q : Bool) → (q ≡ true → p ≡ true) → pos (count_one p) -ℤ pos (count_one q) ≡ pos (count_one (p && (not q && true)))
below_top true true h = refl
below_top true false h = refl
below_top false true h = absurd (let no = h refl in cc)
below_top false false h = refl

above_bottom : (p q : Bool) → (q ≡ true → p ≡ true) → pos (count_one q) -ℤ pos (count_one p) ≡ pos 0 -ℤ pos (count_one (p && (not q && true)))
above_bottom true true h = refl
above_bottom true false h = refl
above_bottom false true h = absurd (let no = h refl in cc)
above_bottom false false h = refl

not_yet : (y j : ℤ) → int_lt j y ≡ not (int_le y j)
not_yet y j = grind (arith, ints)

lower_first : (low high j : ℤ) → low <ℤ high → int_le high j ≡ true → int_le low j ≡ true
lower_first low high j lt h = grind (arith, ints)

regroup : (p q : Bool) → ((p && q) && true) ≡ (p && (q && true))
regroup true q = refl
regroup false q = refl

module _ (o : Operand) (j : ℤ) (e : EdgeParts) (is : IsEdge e) (own : is_of o e.operand ≡ true) (r f : Level) where
  spans_as : (spans e j && true) ≡ (int_le e.y0 j && (not (int_le e.y1 j) && true))
  spans_as = regroup (int_le e.y0 j) (int_lt j e.y1) ∙ ap (λ (b : Bool). int_le e.y0 j && (b && true)) (not_yet e.y1 j)

  up_height : e.up ≡ true → r.y ≡ e.y0 → f.y ≡ e.y1 → height j (r ∷ []) (f ∷ []) ≡ row_sum o j (e ∷ [])
  up_height up low high =
      let here = below_top (int_le e.y0 j) (int_le e.y1 j) (lower_first e.y0 e.y1 j is.has_rows) in
      rw (height_one j r f, sum_one o j any_line e, own, up, spans_as, low, high) (rw here (omega (arith, ints)))

  down_height : e.up ≡ false → r.y ≡ e.y1 → f.y ≡ e.y0 → height j (r ∷ []) (f ∷ []) ≡ row_sum o j (e ∷ [])
  down_height up high low =
      let here = above_bottom (int_le e.y0 j) (int_le e.y1 j) (lower_first e.y0 e.y1 j is.has_rows) in
      rw (height_one j r f, sum_one o j any_line e, own, up, spans_as, low, high) (rw here (omega (arith, ints)))

pair_steps : (sum : ℤ → ℤ) (r f : Level) → IsWithinReach r.y → IsWithinReach f.y
    → ((j : ℤ) → height j (r ∷ []) (f ∷ []) ≡ sum j) → AreSteps sum (r ∷ []) (f ∷ [])
pair_steps sum r f hr hf h = record {
  sums = h;
  as_many = refl;
  rises_within = All-cons Within r [] hr (All-nil Within);
  falls_within = All-cons Within f [] hf (All-nil Within);
}

pub up_steps : (e : EdgeParts) → IsEdge e → e.up ≡ true → (r f : Level) → r.y ≡ e.y0 → f.y ≡ e.y1 → IsWithinReach r.y → IsWithinReach f.y
    → (o : Operand) → is_of o e.operand ≡ true → AreSteps (λ j. row_sum o j (e ∷ [])) (r ∷ []) (f ∷ [])
up_steps e is up r f low high hr hf o own = pair_steps (λ j. row_sum o j (e ∷ [])) r f hr hf (λ j. up_height o j e is own r f up low high)

pub down_steps : (e : EdgeParts) → IsEdge e → e.up ≡ false → (r f : Level) → r.y ≡ e.y1 → f.y ≡ e.y0 → IsWithinReach r.y → IsWithinReach f.y
    → (o : Operand) → is_of o e.operand ≡ true → AreSteps (λ j. row_sum o j (e ∷ [])) (r ∷ []) (f ∷ [])
down_steps e is up r f high low hr hf o own = pair_steps (λ j. row_sum o j (e ∷ [])) r f hr hf (λ j. down_height o j e is own r f up high low)

-- ---- lists of edges

pub steps_more : (o : Operand) (sum : ℤ → ℤ) (e : EdgeParts) (rises falls : List Level) (r f : Level) → AreSteps sum rises falls
    → AreSteps (λ j. row_sum o j (e ∷ [])) (r ∷ []) (f ∷ []) → AreSteps (λ j. sum j +ℤ row_sum o j (e ∷ [])) (rises ++ r ∷ []) (falls ++ f ∷ [])
steps_more o sum e rises falls r f h k = record {
  sums = λ j. (let first = h.sums j in let later = k.sums j in rw (height_append j rises falls (r ∷ []) (f ∷ []), first, later) refl);
  as_many = (let n = h.as_many in rw (length-append rises (r ∷ []), length-append falls (f ∷ []), n) refl);
  rises_within = All-append Within rises (r ∷ []) h.rises_within k.rises_within;
  falls_within = All-append Within falls (f ∷ []) h.falls_within k.falls_within;
}

-- the same steps, whose sum is said in another way
pub steps_as : (sum other : ℤ → ℤ) (rises falls : List Level) → ((j : ℤ) → sum j ≡ other j) → AreSteps sum rises falls → AreSteps other rises falls
steps_as sum other rises falls same h = record {
  sums = λ j. h.sums j ∙ same j;
  as_many = h.as_many;
  rises_within = h.rises_within;
  falls_within = h.falls_within;
}

none_of : (o : Operand) (j : ℤ) (e : EdgeParts) → is_of o e.operand ≡ false → row_sum o j (e ∷ []) ≡ pos 0
none_of o j e h = sum_one o j any_line e ∙ (rw h refl)

pub steps_skip : (o : Operand) (sum : ℤ → ℤ) (e : EdgeParts) (rises falls : List Level) → AreSteps sum rises falls
    → is_of o e.operand ≡ false → AreSteps (λ j. sum j +ℤ row_sum o j (e ∷ [])) rises falls
steps_skip o sum e rises falls h other = steps_as sum (λ j. sum j +ℤ row_sum o j (e ∷ [])) rises falls
    (λ j. (let none = none_of o j e other in omega (arith, ints, none))) h

-- ---- what is left of a list

-- what the edges add up to, less what those that are left do
abbrev pub sum_so_far : Operand → List EdgeParts → List EdgeParts → ℤ → ℤ
sum_so_far o edges left j = row_sum o j edges -ℤ row_sum o j left

pub steps_begin : (o : Operand) (edges : List EdgeParts) → AreSteps (sum_so_far o edges edges) [] []
steps_begin o edges = record {
  sums = λ j. rw (height_nil j) (omega (arith, ints));
  as_many = refl;
  rises_within = All-nil Within;
  falls_within = All-nil Within;
}

pub steps_go_on : (o : Operand) (edges : List EdgeParts) (e : EdgeParts) (rest : List EdgeParts)
    (rises falls : List Level) → AreSteps (λ j. sum_so_far o edges (e ∷ rest) j +ℤ row_sum o j (e ∷ [])) rises falls
    → AreSteps (sum_so_far o edges rest) rises falls
steps_go_on o edges e rest rises falls h =
    steps_as (λ j. sum_so_far o edges (e ∷ rest) j +ℤ row_sum o j (e ∷ [])) (sum_so_far o edges rest) rises falls
    (λ j. (let one = sum_cons o j any_line e rest in omega (arith, ints, one))) h

pub steps_left : (o : Operand) (edges left rest : List EdgeParts) (rises falls : List Level)
    → ((j : ℤ) → row_sum o j rest ≡ row_sum o j left) → AreSteps (sum_so_far o edges left) rises falls
    → AreSteps (sum_so_far o edges rest) rises falls
steps_left o edges left rest rises falls same h =
    steps_as (sum_so_far o edges left) (sum_so_far o edges rest) rises falls (λ j. (let at = same j in omega (arith, ints, at))) h

pub steps_all : (o : Operand) (edges left : List EdgeParts) (rises falls : List Level) → length left ≡ 0
    → AreSteps (sum_so_far o edges left) rises falls → AreSteps (λ j. row_sum o j edges) rises falls
steps_all o edges [] rises falls none h =
    steps_as (sum_so_far o edges []) (λ j. row_sum o j edges) rises falls (λ j. (let nil = sum_nil o j any_line in omega (arith, ints, nil))) h
steps_all o edges (e ∷ left) rises falls none h = absurd (omega (arith, none))

-- ---- two edges that add up to nothing

pub opposites_add : (e f : EdgeParts) → e.y0 ≡ f.y0 → e.y1 ≡ f.y1 → (e.up ≡ f.up → ⊥) → e.operand ≡ f.operand
    → (o : Operand) (j : ℤ) → row_sum o j (e ∷ f ∷ []) ≡ pos 0
opposites_add e f low high up of o j =
    let both = sum_cons o j any_line e (f ∷ []) in
    let first = sum_one o j any_line e in
    let second = sum_one o j any_line f in
    let same : (spans e j && true) ≡ (spans f j && true) = rw (low, high) refl in
    let against = opposites (is_of o f.operand) (spans f j && true) e.up f.up up in
    both ∙ (rw (first, second, of, same) (omega (arith, ints, against)))

pub without_opposites : (e f : EdgeParts) (rest : List EdgeParts)
    → ((o : Operand) (j : ℤ) → row_sum o j (e ∷ f ∷ []) ≡ pos 0) → (o : Operand) (j : ℤ)
    → row_sum o j rest ≡ row_sum o j (e ∷ f ∷ rest)
without_opposites e f rest none o j =
    let all : row_sum o j (e ∷ f ∷ rest) ≡ row_sum o j (e ∷ f ∷ []) +ℤ row_sum o j rest = sum_append o j any_line (e ∷ f ∷ []) rest in
    let two = none o j in
    omega (arith, ints, all, two)

pub same_one_of : (o p : Operand) → is_of o p ≡ true → o ≡ p
same_one_of A A h = refl
same_one_of A B h = absurd (no_of_false h)
  where
    no_of_false : false ≡ true → ⊥
    no_of_false e = cc
same_one_of B A h = absurd (no_of_false h)
  where
    no_of_false : false ≡ true → ⊥
    no_of_false e = cc
same_one_of B B h = refl

pub steps_sorted : (sum : ℤ → ℤ) (rises falls rs fs : List Level) → IsPermutation rises rs → IsPermutation falls fs
    → AreSteps sum rises falls → AreSteps sum rs fs
steps_sorted sum rises falls rs fs h k s = record {
  sums = λ j. height_permuted j rises falls rs fs h k ∙ s.sums j;
  as_many = length_permutation rises rs h ∙ (s.as_many ∙ sym (length_permutation falls fs k));
  rises_within = All-permutation Within rises rs h s.rises_within;
  falls_within = All-permutation Within falls fs k s.falls_within;
}

-- ---- steps that cancel

cons_append : (xs ys : List Level) (x : Level) → (xs ++ x ∷ []) ++ ys ≡ xs ++ x ∷ ys
cons_append [] ys x = refl
cons_append (w ∷ xs) ys x = ap (λ (zs : List Level). w ∷ zs) (cons_append xs ys x)

same_one : (j : ℤ) (r f : Level) → r.y ≡ f.y → height j (r ∷ []) (f ∷ []) ≡ pos 0
same_one j r f h = height_one j r f ∙ (rw h (omega (arith, ints)))

All-second : (P : Level → Type 0) (xs ys : List Level) → All P (xs ++ ys) → All P ys
All-second P [] ys h = h
All-second P (x ∷ xs) ys h = All-second P xs ys (All-tail P x (xs ++ ys) h)

All-first : (P : Level → Type 0) (xs ys : List Level) → All P (xs ++ ys) → All P xs
All-first P [] ys h = All-nil P
All-first P (x ∷ xs) ys h = All-cons P x xs (All-head P x (xs ++ ys) h) (All-first P xs ys (All-tail P x (xs ++ ys) h))

shorter : (a b c d : ℕ) → a + (1 + b) ≡ c + (1 + d) → a + b ≡ c + d
shorter a b c d h = omega (arith, h)

pub steps_cancel : (sum : ℤ → ℤ) (ups downs rises falls : List Level) (r f : Level) → r.y ≡ f.y
    → AreSteps sum (ups ++ r ∷ rises) (downs ++ f ∷ falls) → AreSteps sum (ups ++ rises) (downs ++ falls)
steps_cancel sum ups downs rises falls r f same h = record {
  sums = λ j. (let all = h.sums j in
      let one = same_one j r f same in
      let parts = height_append j ups downs (r ∷ rises) (f ∷ falls) in
      let first = height_cons j r f rises falls in
      rw (height_append j ups downs rises falls) (omega (arith, ints, all, one, parts, first)));
  as_many = (let n = h.as_many in
      let m : length ups + length (r ∷ rises) ≡ length downs + length (f ∷ falls) = sym (length-append ups (r ∷ rises))
      ∙ (n ∙ length-append downs (f ∷ falls)) in
      length-append ups rises ∙ (shorter (length ups) (length rises) (length downs) (length falls) (omega (arith, m)) ∙ sym (length-append downs falls)));
  rises_within = All-append Within ups rises (All-first Within ups (r ∷ rises) h.rises_within)
      (All-tail Within r rises (All-second Within ups (r ∷ rises) h.rises_within));
  falls_within = All-append Within downs falls (All-first Within downs (f ∷ falls) h.falls_within)
      (All-tail Within f falls (All-second Within downs (f ∷ falls) h.falls_within));
}

pub steps_aside : (sum : ℤ → ℤ) (ups downs rises falls : List Level) (r : Level)
    → AreSteps sum (ups ++ r ∷ rises) (downs ++ falls) → AreSteps sum ((ups ++ r ∷ []) ++ rises) (downs ++ falls)
steps_aside sum ups downs rises falls r h = subst (λ (xs : List Level). AreSteps sum xs (downs ++ falls)) (sym (cons_append ups rises r)) h

pub falls_aside : (sum : ℤ → ℤ) (ups downs rises falls : List Level) (f : Level)
    → AreSteps sum (ups ++ rises) (downs ++ f ∷ falls) → AreSteps sum (ups ++ rises) ((downs ++ f ∷ []) ++ falls)
falls_aside sum ups downs rises falls f h = subst (λ (xs : List Level). AreSteps sum (ups ++ rises) xs) (sym (cons_append downs falls f)) h

pub same_operand : (o p q : Operand) (b c : Bool) → q ≡ p → b ≡ is_of o q → b ≡ c → is_of o p ≡ c
same_operand o p q b c e is h = ap (λ (r : Operand). is_of o r) (sym e) ∙ (sym is ∙ h)

-- ---- an upright edge for two steps

abbrev pub made : ℤ → ℤ → ℤ → Bool → Operand → EdgeParts
made x low high up p = edge_parts low high (Upright x) up p

sum_of_made : (o : Operand) (j : ℤ) (x low high : ℤ) (up : Bool) (p : Operand) → low <ℤ high → row_sum o j (made x low high up p ∷ [])
    ≡ pos (count_one (is_of o p && (up && (int_le low j && (not (int_le high j) && true))))) -ℤ pos
    (count_one (is_of o p && (not up && (int_le low j && (not (int_le high j) && true)))))
sum_of_made o j x low high up p lt =
    let spanning : (spans (made x low high up p) j && true) ≡ (int_le low j && (not (int_le high j) && true)) = regroup
    (int_le low j) (int_lt j high) ∙ ap (λ (b : Bool). int_le low j && (b && true)) (not_yet high j) in
    sum_one o j any_line (made x low high up p) ∙ (rw spanning refl)

up_made : (o : Operand) (j : ℤ) (x : ℤ) (p : Operand) (r f : Level) (b : Bool) → is_of o p ≡ b → r.y <ℤ f.y
    → row_sum o j (made x r.y f.y true p ∷ []) ≡ cond b (height j (r ∷ []) (f ∷ [])) (pos 0)
up_made o j x p r f true own lt =
    let here = below_top (int_le r.y j) (int_le f.y j) (lower_first r.y f.y j lt) in
    sum_of_made o j x r.y f.y true p lt ∙ (rw (own, height_one j r f) (rw here (omega (arith, ints))))
up_made o j x p r f false own lt = sum_of_made o j x r.y f.y true p lt ∙ (rw own refl)

down_made : (o : Operand) (j : ℤ) (x : ℤ) (p : Operand) (r f : Level) (b : Bool) → is_of o p ≡ b → f.y <ℤ r.y
    → row_sum o j (made x f.y r.y false p ∷ []) ≡ cond b (height j (r ∷ []) (f ∷ [])) (pos 0)
down_made o j x p r f true own lt =
    let here = above_bottom (int_le f.y j) (int_le r.y j) (lower_first f.y r.y j lt) in
    sum_of_made o j x f.y r.y false p lt ∙ (rw (own, height_one j r f) (rw here (omega (arith, ints))))
down_made o j x p r f false own lt = sum_of_made o j x f.y r.y false p lt ∙ (rw own refl)

none_made : (j : ℤ) (r f : Level) (b : Bool) → r.y ≡ f.y → pos 0 ≡ cond b (height j (r ∷ []) (f ∷ [])) (pos 0)
none_made j r f true same = sym (same_one j r f same)
none_made j r f false same = refl

single_on : (x low high : ℤ) (up : Bool) (p : Operand) → All (λ e. e.line ≡ Upright x) (made x low high up p ∷ [])
single_on x low high up p = All-cons (λ e. e.line ≡ Upright x) (made x low high up p) [] refl (All-nil (λ e. e.line ≡ Upright x))

pub up_sum : (x : ℤ) (p : Operand) (r f : Level) → r.y <ℤ f.y
    → AreSumsOf x p (λ j. height j (r ∷ []) (f ∷ [])) (option_to_list (Some (made x r.y f.y true p)))
up_sum x p r f lt = record { same = λ o j. up_made o j x p r f (is_of o p) refl lt; on_line = single_on x r.y f.y true p }

pub down_sum : (x : ℤ) (p : Operand) (r f : Level) → f.y <ℤ r.y
    → AreSumsOf x p (λ j. height j (r ∷ []) (f ∷ [])) (option_to_list (Some (made x f.y r.y false p)))
down_sum x p r f lt = record { same = λ o j. down_made o j x p r f (is_of o p) refl lt; on_line = single_on x f.y r.y false p }

pub no_sum : (x : ℤ) (p : Operand) (r f : Level) → r.y ≡ f.y → AreSumsOf x p (λ j. height j (r ∷ []) (f ∷ [])) (option_to_list None)
no_sum x p r f same = record { same = λ o j. sum_nil o j any_line ∙ none_made j r f (is_of o p) same; on_line = All-nil (λ e. e.line ≡ Upright x) }

-- ---- upright edges for steps, two by two

-- the edges so far and the steps that are left are the whole
pub record AreSummed (x : ℤ) (p : Operand) (sum : ℤ → ℤ) (rises falls : List Level) (sums : List EdgeParts) : Type 0 where
  pub same : (o : Operand) (j : ℤ) → (row_sum o j sums +ℤ (if is_of o p then height j rises falls else pos 0)) ≡ (if is_of o p then sum j else pos 0)
  pub on_line : All (λ e. e.line ≡ Upright x) sums

-- what is known of steps apart from their sum
pub record ArePaired (rises falls : List Level) : Type 0 where
  pub as_many : length rises ≡ length falls
  pub rises_within : All Within rises
  pub falls_within : All Within falls

pub paired : (sum : ℤ → ℤ) (rises falls : List Level) → AreSteps sum rises falls → ArePaired rises falls
paired sum rises falls h = record { as_many = h.as_many; rises_within = h.rises_within; falls_within = h.falls_within }

pub paired_rest : (r f : Level) (rises falls : List Level) → ArePaired (r ∷ rises) (f ∷ falls) → ArePaired rises falls
paired_rest r f rises falls h = record {
  as_many = (let n = h.as_many in omega (arith, n));
  rises_within = All-tail Within r rises h.rises_within;
  falls_within = All-tail Within f falls h.falls_within;
}

none_so_far : (b : Bool) (z y : ℤ) → z ≡ y → (pos 0 +ℤ cond b z (pos 0)) ≡ cond b y (pos 0)
none_so_far true z y h = omega (arith, ints, h)
none_so_far false z y h = refl

pub summed_none : (x : ℤ) (p : Operand) (sum : ℤ → ℤ) (rises falls : List Level) → AreSteps sum rises falls → AreSummed x p sum rises falls []
summed_none x p sum rises falls h = record {
  same = λ o j. (let at = h.sums j in rw (sum_nil o j any_line) (none_so_far (is_of o p) (height j rises falls) (sum j) at));
  on_line = All-nil (λ e. e.line ≡ Upright x);
}

one_further : (b : Bool) (s n one later all y : ℤ) → all ≡ one +ℤ later → (s +ℤ cond b all (pos 0)) ≡ cond b y (pos 0)
    → n ≡ cond b one (pos 0) → ((s +ℤ n) +ℤ cond b later (pos 0)) ≡ cond b y (pos 0)
one_further true s n one later all y h k e = omega (arith, ints, h, k, e)
one_further false s n one later all y h k e = omega (arith, ints, k, e)

pub summed_more : (x : ℤ) (p : Operand) (sum : ℤ → ℤ) (r f : Level) (rises falls : List Level)
    (sums more : List EdgeParts) → AreSummed x p sum (r ∷ rises) (f ∷ falls) sums
    → AreSumsOf x p (λ j. height j (r ∷ []) (f ∷ [])) more → AreSummed x p sum rises falls (sums ++ more)
summed_more x p sum r f rises falls sums more h k = record {
  same = λ o j. (let before = h.same o j in
      let here = k.same o j in
      rw (sum_append o j any_line sums more)
      (one_further (is_of o p) (row_sum o j sums) (row_sum o j more) (height j (r ∷ []) (f ∷ []))
      (height j rises falls) (height j (r ∷ rises) (f ∷ falls)) (sum j)
      (height_cons j r f rises falls) before here));
  on_line = All-append (λ e. e.line ≡ Upright x) sums more h.on_line k.on_line;
}

nothing_left : (b : Bool) (s z y : ℤ) → z ≡ pos 0 → (s +ℤ cond b z (pos 0)) ≡ cond b y (pos 0) → s ≡ cond b y (pos 0)
nothing_left true s z y h k = omega (arith, ints, h, k)
nothing_left false s z y h k = omega (arith, ints, k)

no_level : (levels : List Level) → length levels ≡ 0 → levels ≡ []
no_level [] h = refl
no_level (f ∷ levels) h = absurd (omega (arith, h))

pub summed_all : (x : ℤ) (p : Operand) (sum : ℤ → ℤ) (rises falls : List Level) (sums : List EdgeParts)
    → length rises ≡ 0 → ArePaired rises falls → AreSummed x p sum rises falls sums → AreSumsOf x p sum sums
summed_all x p sum rises falls sums none pair h =
    let n = pair.as_many in
    let ups : rises ≡ [] = no_level rises none in
    let no : falls ≡ [] = no_level falls (omega (arith, n, none)) in
    record {
      same = λ o j. nothing_left (is_of o p) (row_sum o j sums) (height j rises falls) (sum j) (rw (ups, no) (height_nil j)) (h.same o j);
      on_line = h.on_line;
    }

-- ---- both operands

both_of : (o : Operand) (a b y : ℤ) → (o ≡ A → a ≡ y) → (o ≡ B → b ≡ y) → (cond (is_of o A) a (pos 0) +ℤ cond (is_of o B) b (pos 0)) ≡ y
both_of A a b y h k = let e = h refl in omega (arith, ints, e)
both_of B a b y h k = let e = k refl in omega (arith, ints, e)

pub sums_both : (x : ℤ) (edges first second : List EdgeParts) → AreSumsOf x A (λ j. row_sum A j edges) first
    → AreSumsOf x B (λ j. row_sum B j edges) second → AreSums x edges (first ++ second)
sums_both x edges first second h k = record {
  same = λ o j. (let a = h.same o j in let b = k.same o j in
      rw (sum_append o j any_line first second, a, b)
      (both_of o (row_sum A j edges) (row_sum B j edges) (row_sum o j edges) (λ e. (rw e refl))
      (λ e. (rw e refl))));
  on_line = All-append (λ e. e.line ≡ Upright x) first second h.on_line k.on_line;
}
