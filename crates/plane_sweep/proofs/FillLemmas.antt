-- The lines of a bundle, in the order of the row above the point.
use Rattle.std.proofs.Common.{ℤ, pos, ◌≡◌, ◌≢◌, ◌+ℤ◌, ◌-ℤ◌, ◌≤ℤ◌, ◌<ℤ◌, List, [], ◌∷◌, ◌++◌, Option, Some, None, All, arith, refl, ap, sym, subst, ◌∙◌}
use Rattle.std.proofs.lemmas.Int.{ints}
use Rattle.std.proofs.lemmas.List.Elements.{All-nil, All-cons, All-head, All-tail, All-append, All-weaker}
use Rattle.half_grid.specs.Edges.{EdgeParts}
use Rattle.half_grid.specs.Lines.{x_on}
use Rattle.half_grid.specs.Rows.{place}
use Rattle.half_grid.specs.declared.plane.Line.{Line}
use Rattle.half_grid.specs.declared.plane.Line.TheVariants.{Upright, Rising, Falling}
use Rattle.half_grid.specs.declared.border.Operand.{Operand}
use Rattle.half_grid.specs.declared.border.Operand.TheVariants.{A, B}
use Rattle.half_grid.proofs.ForCallers.{int_eq_same}
use Rattle.active_lines.specs.declared.item.ActiveLine.{ActiveLine}
use Rattle.active_lines.specs.declared.item.Windings.{Windings}
use Rattle.row_lists.specs.Weights.{weight}
use Rattle.row_lists.specs.RowLists.{winding_of, AscendIn, ChangeAtEach, change_at}
use Rattle.row_lists.specs.RowRuns.{last_windings}
use Rattle.row_lists.specs.Halfway.{PassAt, AreThrough}
use Rattle.row_lists.proofs.ForCallers.{change_left, change_right, last_append}
use Rattle.plane_sweep.specs.declared.bundle.Bundle.{Bundle}
use Rattle.plane_sweep.specs.Bundles.{added, weight_in, IsBundleOf, IsFallingAt, IsRisingAt, right_of, IsLineWith, IsPut, AreLinesOf}

some_same : (l m : Line) → Some l ≡ Some m → l ≡ m
some_same l m h = cc

none_some : {P : Type 0} (l : Line) → None ≡ Some l → P
none_some l h = absurd (let clash : ⊥ = cc in clash)

-- ---- one line

pub one_change : (line : Option Line) (weight left : Windings) (lines : List ActiveLine) → IsLineWith line weight left lines → ChangeAtEach left lines
one_change line weight left [] h = tt
one_change line weight left (l ∷ []) h = (h.2, tt)
one_change line weight left (l ∷ m ∷ lines) h = absurd h

pub one_last : (line : Option Line) (weight left : Windings) (lines : List ActiveLine)
    → IsLineWith line weight left lines → last_windings left lines ≡ right_of line weight left
one_last line weight left [] h = sym h
one_last None weight left (l ∷ []) h = none_some l.line h.0
one_last (Some k) weight left (l ∷ []) h = h.1
one_last line weight left (l ∷ m ∷ lines) h = absurd h

one_ascends : (j : ℤ) (line : Option Line) (weight left : Windings) (lines : List ActiveLine) → IsLineWith line weight left lines → AscendIn j lines
one_ascends j line weight left [] h = tt
one_ascends j line weight left (l ∷ []) h = (All-nil (λ m. place l.line j <ℤ place m.line j), tt)
one_ascends j line weight left (l ∷ m ∷ lines) h = absurd h

-- each of the lines is the one
one_all : (P : Line → Type 0) (line : Option Line) (weight left : Windings) (lines : List ActiveLine) → ((k : Line) → line ≡ Some k → P k)
    → IsLineWith line weight left lines → All (λ l. P l.line) lines
one_all P line weight left [] f h = All-nil (λ l. P l.line)
one_all P line weight left (l ∷ []) f h = All-cons (λ m. P m.line) l [] (f l.line h.0) (All-nil (λ m. P m.line))
one_all P line weight left (l ∷ m ∷ lines) f h = absurd h

winding_zero : (o : Operand) (left weight : Windings) → added left weight ≡ left → pos 0 ≡ winding_of o weight
winding_zero A left weight h = (let e = ap (λ (w : Windings). w.a) h in omega (arith, ints, e))
winding_zero B left weight h = (let e = ap (λ (w : Windings). w.b) h in omega (arith, ints, e))

winding_more : (o : Operand) (left weight w : Windings) → w ≡ added left weight → winding_of o w -ℤ winding_of o left ≡ winding_of o weight
winding_more A left weight w h = (let e = ap (λ (v : Windings). v.a) h in omega (arith, ints, e))
winding_more B left weight w h = (let e = ap (λ (v : Windings). v.b) h in omega (arith, ints, e))

one_weight : (o : Operand) (j : ℤ) (k : Line) (weight left : Windings) (lines : List ActiveLine) → IsLineWith (Some k) weight left lines
    → change_at o j (place k j) left lines ≡ winding_of o weight
one_weight o j k weight left [] h = winding_zero o left weight h
one_weight o j k weight left (l ∷ []) h =
    let same = int_eq_same (place l.line j) (place k j) (ap (λ (m : Line). place m j) (sym (some_same k l.line h.0))) in
    rw same (winding_more o left weight l.windings h.1)
one_weight o j k weight left (l ∷ m ∷ lines) h = absurd h

-- ---- the three lines

record IsThere (y x at : ℤ) (k : Line) : Type 0 where
  passes : x_on k y ≡ x
  stands : place k y ≡ at

falling_there : (y x : ℤ) (line : Option Line) → IsFallingAt y x line → (k : Line) → line ≡ Some k → IsThere y x ((x +ℤ x) -ℤ pos 1) k
falling_there y x None h k e = none_some k e
falling_there y x (Some (Upright c)) h k e = absurd h
falling_there y x (Some (Rising c)) h k e = absurd h
falling_there y x (Some (Falling c)) h k e = subst (IsThere y x ((x +ℤ x) -ℤ pos 1)) (some_same (Falling c) k e)
    (record { passes = h; stands = omega (arith, ints, h) })

rising_there : (y x : ℤ) (line : Option Line) → IsRisingAt y x line → (k : Line) → line ≡ Some k → IsThere y x ((x +ℤ x) +ℤ pos 1) k
rising_there y x None h k e = none_some k e
rising_there y x (Some (Upright c)) h k e = absurd h
rising_there y x (Some (Falling c)) h k e = absurd h
rising_there y x (Some (Rising c)) h k e = subst (IsThere y x ((x +ℤ x) +ℤ pos 1)) (some_same (Rising c) k e)
    (record { passes = h; stands = omega (arith, ints, h) })

upright_there : (y x : ℤ) (k : Line) → Some (Upright x) ≡ Some k → IsThere y x (x +ℤ x) k
upright_there y x k e = subst (IsThere y x (x +ℤ x)) (some_same (Upright x) k e) (record { passes = refl; stands = refl })

ascend_join : (j n : ℤ) (xs ys : List ActiveLine) → AscendIn j xs → AscendIn j ys → All (λ l. place l.line j <ℤ n) xs
    → All (λ l. n ≤ℤ place l.line j) ys → AscendIn j (xs ++ ys)
ascend_join j n [] ys h k left right = k
ascend_join j n (l ∷ xs) ys h k left right =
    let here = All-head (λ m. place m.line j <ℤ n) l xs left in (
      All-append (λ m. place l.line j <ℤ place m.line j) xs ys h.0
          (All-weaker (λ m. n ≤ℤ place m.line j) (λ m. place l.line j <ℤ place m.line j)
          (λ m q. omega (arith, ints, here, q)) ys right),
      ascend_join j n xs ys h.1 k (All-tail (λ m. place m.line j <ℤ n) l xs left) right,
    )

change_join : (w : Windings) (xs ys : List ActiveLine) → ChangeAtEach w xs → ChangeAtEach (last_windings w xs) ys → ChangeAtEach w (xs ++ ys)
change_join w [] ys h k = k
change_join w (l ∷ xs) ys h k = (h.0, change_join l.windings xs ys h.1 k)

module _ (edges : List EdgeParts) (y x : ℤ) (b : Bundle) (left : Windings) (lines : List ActiveLine) (right : Windings)
    (are : AreLinesOf y x b left lines right) where
  after_falling : Windings
  after_falling = right_of are.falling_line b.falling left

  last_falling : last_windings left are.falling ≡ right_of are.falling_line b.falling left
  last_falling = one_last are.falling_line b.falling left are.falling are.first

  last_upright : last_windings left (are.falling ++ are.upright) ≡ added (right_of are.falling_line b.falling left) b.upright
  last_upright =
      last_append left are.falling are.upright
      ∙ (ap (λ (w : Windings). last_windings w are.upright) last_falling
      ∙ one_last (Some (Upright x)) b.upright (right_of are.falling_line b.falling left) are.upright are.second)

  pub last_is : last_windings left lines ≡ right
  last_is =
      ap (last_windings left) are.split
      ∙ (last_append left (are.falling ++ are.upright) are.rising
      ∙ (ap (λ (w : Windings). last_windings w are.rising) last_upright
      ∙ (one_last are.rising_line b.rising (added (right_of are.falling_line b.falling left) b.upright) are.rising are.third ∙ sym are.last)))

  fallings : All (λ l. IsThere y x ((x +ℤ x) -ℤ pos 1) l.line) are.falling
  fallings = one_all (IsThere y x ((x +ℤ x) -ℤ pos 1)) are.falling_line b.falling left are.falling (falling_there y x are.falling_line are.is_falling) are.first

  uprights : All (λ l. IsThere y x (x +ℤ x) l.line) are.upright
  uprights = one_all (IsThere y x (x +ℤ x)) (Some (Upright x)) b.upright (right_of are.falling_line b.falling left) are.upright (upright_there y x) are.second

  risings : All (λ l. IsThere y x ((x +ℤ x) +ℤ pos 1) l.line) are.rising
  risings = one_all (IsThere y x ((x +ℤ x) +ℤ pos 1)) are.rising_line b.rising
      (added (right_of are.falling_line b.falling left) b.upright) are.rising
      (rising_there y x are.rising_line are.is_rising) are.third

  pub passes_at : PassAt y x lines
  passes_at =
      subst (PassAt y x) (sym are.split)
      (All-append (λ l. x_on l.line y ≡ x) (are.falling ++ are.upright) are.rising
      (All-append (λ l. x_on l.line y ≡ x) are.falling are.upright
      (All-weaker (λ l. IsThere y x ((x +ℤ x) -ℤ pos 1) l.line) (λ l. x_on l.line y ≡ x) (λ l h. h.passes) are.falling fallings)
      (All-weaker (λ l. IsThere y x (x +ℤ x) l.line) (λ l. x_on l.line y ≡ x) (λ l h. h.passes) are.upright uprights))
      (All-weaker (λ l. IsThere y x ((x +ℤ x) +ℤ pos 1) l.line) (λ l. x_on l.line y ≡ x) (λ l h. h.passes) are.rising risings))

  two_ascend : AscendIn y (are.falling ++ are.upright)
  two_ascend =
      ascend_join y (x +ℤ x) are.falling are.upright (one_ascends y are.falling_line b.falling left are.falling are.first)
      (one_ascends y (Some (Upright x)) b.upright (right_of are.falling_line b.falling left) are.upright are.second)
      (All-weaker (λ l. IsThere y x ((x +ℤ x) -ℤ pos 1) l.line) (λ l. place l.line y <ℤ (x +ℤ x))
      (λ l h. (let s = h.stands in omega (arith, ints, s))) are.falling fallings)
      (All-weaker (λ l. IsThere y x (x +ℤ x) l.line) (λ l. (x +ℤ x) ≤ℤ place l.line y)
      (λ l h. (let s = h.stands in omega (arith, ints, s))) are.upright uprights)

  two_before : All (λ l. place l.line y <ℤ ((x +ℤ x) +ℤ pos 1)) (are.falling ++ are.upright)
  two_before =
      All-append (λ l. place l.line y <ℤ ((x +ℤ x) +ℤ pos 1)) are.falling are.upright
      (All-weaker (λ l. IsThere y x ((x +ℤ x) -ℤ pos 1) l.line) (λ l. place l.line y <ℤ ((x +ℤ x) +ℤ pos 1))
      (λ l h. (let s = h.stands in omega (arith, ints, s))) are.falling fallings)
      (All-weaker (λ l. IsThere y x (x +ℤ x) l.line) (λ l. place l.line y <ℤ ((x +ℤ x) +ℤ pos 1))
      (λ l h. (let s = h.stands in omega (arith, ints, s))) are.upright uprights)

  pub all_ascend : AscendIn y lines
  all_ascend =
      subst (AscendIn y) (sym are.split)
      (ascend_join y ((x +ℤ x) +ℤ pos 1) (are.falling ++ are.upright) are.rising two_ascend
      (one_ascends y are.rising_line b.rising (added (right_of are.falling_line b.falling left) b.upright) are.rising are.third) two_before
      (All-weaker (λ l. IsThere y x ((x +ℤ x) +ℤ pos 1) l.line) (λ l. ((x +ℤ x) +ℤ pos 1) ≤ℤ place l.line y)
      (λ l h. (let s = h.stands in omega (arith, ints, s))) are.rising risings))

  pub all_change : ChangeAtEach left lines
  all_change =
      subst (ChangeAtEach left) (sym are.split)
      (change_join left (are.falling ++ are.upright) are.rising
      (change_join left are.falling are.upright (one_change are.falling_line b.falling left are.falling are.first)
      (subst (λ (w : Windings). ChangeAtEach w are.upright) (sym last_falling)
      (one_change (Some (Upright x)) b.upright (right_of are.falling_line b.falling left) are.upright are.second)))
      (subst (λ (w : Windings). ChangeAtEach w are.rising) (sym last_upright)
      (one_change are.rising_line b.rising (added (right_of are.falling_line b.falling left) b.upright) are.rising are.third)))

  -- ---- the change at each line through the point

  whole : Operand → Line → ℤ
  whole o m = change_at o y (place m y) left ((are.falling ++ are.upright) ++ are.rising)

  no_falling : (n : ℤ) → (x +ℤ x) ≤ℤ n → All (λ l. place l.line y ≢ n) are.falling
  no_falling n lt = All-weaker (λ l. IsThere y x ((x +ℤ x) -ℤ pos 1) l.line) (λ l. place l.line y ≢ n)
      (λ l h e. (let s = h.stands in absurd (omega (arith, ints, s, e, lt)))) are.falling fallings

  no_upright : (n : ℤ) → n ≢ (x +ℤ x) → All (λ l. place l.line y ≢ n) are.upright
  no_upright n other = All-weaker (λ l. IsThere y x (x +ℤ x) l.line) (λ l. place l.line y ≢ n) (λ l h e. other (sym e ∙ h.stands)) are.upright uprights

  no_rising : (n : ℤ) → n ≤ℤ (x +ℤ x) → All (λ l. place l.line y ≢ n) are.rising
  no_rising n le = All-weaker (λ l. IsThere y x ((x +ℤ x) +ℤ pos 1) l.line) (λ l. place l.line y ≢ n)
      (λ l h e. (let s = h.stands in absurd (omega (arith, ints, s, e, le)))) are.rising risings

  falling_weight : (o : Operand) (line : Option Line) (c : ℤ) → are.falling_line ≡ line → IsFallingAt y x line → x_on (Falling c) y ≡ x
      → change_at o y (place (Falling c) y) left are.falling ≡ winding_of o b.falling
  falling_weight o None c e h at = absurd (h c at)
  falling_weight o (Some (Upright d)) c e h at = absurd h
  falling_weight o (Some (Rising d)) c e h at = absurd h
  falling_weight o (Some (Falling d)) c e h at =
      let same : d ≡ c = omega (arith, ints, h, at) in
      one_weight o y (Falling c) b.falling left are.falling
      (subst (λ (l : Option Line). IsLineWith l b.falling left are.falling) (e ∙ ap (λ (k : ℤ). Some (Falling k)) same) are.first)

  rising_weight : (o : Operand) (line : Option Line) (c : ℤ) → are.rising_line ≡ line → IsRisingAt y x line → x_on (Rising c) y ≡ x
      → change_at o y (place (Rising c) y) (added (right_of are.falling_line b.falling left) b.upright) are.rising ≡ winding_of o b.rising
  rising_weight o None c e h at = absurd (h c at)
  rising_weight o (Some (Upright d)) c e h at = absurd h
  rising_weight o (Some (Falling d)) c e h at = absurd h
  rising_weight o (Some (Rising d)) c e h at =
      let same : d ≡ c = omega (arith, ints, h, at) in
      one_weight o y (Rising c) b.rising (added (right_of are.falling_line b.falling left) b.upright) are.rising
      (subst (λ (l : Option Line). IsLineWith l b.rising
      (added (right_of are.falling_line b.falling left) b.upright) are.rising)
      (e ∙ ap (λ (k : ℤ). Some (Rising k)) same) are.third)

  changes : (o : Operand) (m : Line) → x_on m y ≡ x → whole o m ≡ winding_of o (weight_in b m)
  unfolding whole
  changes o (Falling c) at =
      let n : place (Falling c) y ≡ ((x +ℤ x) -ℤ pos 1) = omega (arith, ints, at) in
      change_left o y (place (Falling c) y) left (are.falling ++ are.upright) are.rising (no_rising (place (Falling c) y) (omega (arith, ints, n)))
      ∙ (change_left o y (place (Falling c) y) left are.falling are.upright (no_upright (place (Falling c) y) (λ e. absurd (omega (arith, ints, n, e))))
      ∙ falling_weight o are.falling_line c refl are.is_falling at)
  changes o (Upright c) at =
      change_left o y (place (Upright c) y) left (are.falling ++ are.upright) are.rising (no_rising (place (Upright c) y) (omega (arith, ints, at)))
      ∙ (change_right o y (place (Upright c) y) left are.falling are.upright (no_falling (place (Upright c) y) (omega (arith, ints, at)))
      ∙ (ap (λ (w : Windings). change_at o y (place (Upright c) y) w are.upright) last_falling
      ∙ one_weight o y (Upright c) b.upright (right_of are.falling_line b.falling left) are.upright
      (subst (λ (k : ℤ). IsLineWith (Some (Upright k)) b.upright (right_of are.falling_line b.falling left) are.upright) (sym at) are.second)))
  changes o (Rising c) at =
      let n : place (Rising c) y ≡ ((x +ℤ x) +ℤ pos 1) = omega (arith, ints, at) in
      change_right o y (place (Rising c) y) left (are.falling ++ are.upright) are.rising
      (All-append (λ l. place l.line y ≢ place (Rising c) y) are.falling are.upright (no_falling (place (Rising c) y) (omega (arith, ints, n)))
      (no_upright (place (Rising c) y) (λ e. absurd (omega (arith, ints, n, e)))))
      ∙ (ap (λ (w : Windings). change_at o y (place (Rising c) y) w are.rising) last_upright
      ∙ rising_weight o are.rising_line c refl are.is_rising at)

  -- where the bundle has the weights of the row above, the lines are those of that row
  pub lines_through : IsBundleOf y x (λ o m. weight o edges y (place m y)) b → AreThrough edges y x left lines
  unfolding whole
  lines_through has = record {
    ascend = all_ascend;
    change = all_change;
    at = passes_at;
    weights = λ o m at. ap (change_at o y (place m y) left) are.split ∙ (changes o m at ∙ has o m at);
  }

-- ---- put one after another

pub three_put : (y x : ℤ) (b : Bundle) (left w1 w2 w3 : Windings) (fl rl : Option Line) (l0 l1 l2 l3 : List ActiveLine) → IsFallingAt y x fl → IsRisingAt y x rl
    → l0 ≡ [] → IsPut fl b.falling left l0 l1 → w1 ≡ right_of fl b.falling left → IsPut (Some (Upright x)) b.upright w1 l1 l2 → w2 ≡ added w1 b.upright
    → IsPut rl b.rising w2 l2 l3 → w3 ≡ right_of rl b.rising w2 → AreLinesOf y x b left l3 w3
three_put y x b left w1 w2 w3 fl rl l0 l1 l2 l3 is_falling is_rising none first e1 second e2 third e3 =
    let up : w2 ≡ added (right_of fl b.falling left) b.upright = e2 ∙ ap (λ (w : Windings). added w b.upright) e1 in
    record {
      falling_line = fl;
      is_falling = is_falling;
      rising_line = rl;
      is_rising = is_rising;
      falling = first.lines;
      upright = second.lines;
      rising = third.lines;
      split = third.split ∙ (ap (λ (ls : List ActiveLine). ls ++ third.lines)
          (second.split ∙ ap (λ (ls : List ActiveLine). ls ++ second.lines)
          (first.split ∙ ap (λ (ls : List ActiveLine). ls ++ first.lines) none)));
      first = first.is;
      second = subst (λ (w : Windings). IsLineWith (Some (Upright x)) b.upright w second.lines) e1 second.is;
      third = subst (λ (w : Windings). IsLineWith rl b.rising w third.lines) up third.is;
      last = e3 ∙ ap (λ (w : Windings). right_of rl b.rising w) up;
    }
