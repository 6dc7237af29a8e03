-- An edge's parts below and above a Y, and on both sides of an upright line.
use Rattle.std.proofs.Common.{FitsSigned, w64, to_z, of_z, ◌*ℤ◌, ◌≡◌, Bool, true, false, ◌&&◌, not, ℤ, pos, ◌+ℤ◌, ◌-ℤ◌}
use Rattle.std.proofs.Common.{◌≤ℤ◌, ◌<ℤ◌, arith, refl, sym, ap, ◌∙◌, cond, List, [], ◌∷◌, ◌++◌, Some, None}
use Rattle.std.proofs.lemmas.Int.{ints, clamps, by_lt_z, to_z-of_z}
use Rattle.std.proofs.lemmas.List.Elements.{All-cons, All-nil}
use Rattle.std.specs.List.{All}
use Rattle.std.specs.Option.{option_to_list}
use Rattle.std.specs.Int.{int_min, int_max}
use Rattle.std.specs.Prelude.{int_lt, int_le}
use Rattle.half_grid.specs.Lines.{x_on, first_strip}
use Rattle.half_grid.specs.Reach.{IsWithinReach}
use Rattle.half_grid.specs.Winding.{count_one}
use Rattle.half_grid.specs.Edges.{EdgeParts, IsEdge, edge_parts, spans, is_of}
use Rattle.half_grid.specs.declared.plane.Line.{Line}
use Rattle.half_grid.specs.declared.plane.Line.TheVariants.{Upright, Rising, Falling}
use Rattle.half_grid.specs.declared.border.Operand.{Operand}
use Rattle.half_grid.proofs.ForCallers.{strip_within}
use Rattle.column_sweep.specs.RowSums.{sum_among, AddUpAlike}
use Rattle.column_sweep.specs.Parts.{LiesLeft, LiesRight, part_over, part_below, part_above, rests, turned, AddUp}
use Rattle.column_sweep.proofs.Adding.{sum_nil, sum_one, sum_cons, sum_append, sum_none}

pub between : (a b y : ℤ) → IsWithinReach a → IsWithinReach b → a ≤ℤ y → y ≤ℤ b → IsWithinReach y
between a b y ha hb l h = record { low = omega (arith, ints, ha.low, l); high = omega (arith, ints, hb.high, h) }

pub line_between : (l : Line) (y0 y1 y : ℤ) → IsWithinReach (x_on l y0) → IsWithinReach (x_on l y1) → y0 ≤ℤ y → y ≤ℤ y1 → IsWithinReach (x_on l y)
line_between (Upright c) y0 y1 y a b l h = a
line_between (Rising c) y0 y1 y a b l h = record { low = omega (arith, ints, a.low); high = omega (arith, ints, b.high) }
line_between (Falling c) y0 y1 y a b l h = record { low = omega (arith, ints, b.low); high = omega (arith, ints, a.high) }

pub strip_of_edge : (e : EdgeParts) → IsEdge e → IsWithinReach (first_strip e.line)
strip_of_edge e h = strip_within e.line e.y0 h.y0 h.lower_end

abbrev pub over : EdgeParts → ℤ → ℤ → EdgeParts
over e low high = edge_parts low high e.line e.up e.operand

pub over_is_edge : (e : EdgeParts) (low high : ℤ) → IsEdge e → e.y0 ≤ℤ low → high ≤ℤ e.y1 → low <ℤ high → IsEdge (over e low high)
over_is_edge e low high is from to lt =
    let low_end : low ≤ℤ e.y1 = omega (arith, ints, lt, to) in
    let high_end : e.y0 ≤ℤ high = omega (arith, ints, lt, from) in
    record {
      has_rows = lt;
      y0 = between e.y0 e.y1 low is.y0 is.y1 from low_end;
      y1 = between e.y0 e.y1 high is.y0 is.y1 high_end to;
      lower_end = line_between e.line e.y0 e.y1 low is.lower_end is.upper_end from low_end;
      upper_end = line_between e.line e.y0 e.y1 high is.lower_end is.upper_end high_end to;
    }

pub turned_is_edge : (e : EdgeParts) → IsEdge e → IsEdge (turned e)
turned_is_edge e is = record { has_rows = is.has_rows; y0 = is.y0; y1 = is.y1; lower_end = is.lower_end; upper_end = is.upper_end }

lt_yes : (x y : ℤ) → x <ℤ y → int_lt x y ≡ true
lt_yes x y h = grind (arith, ints)

lt_no : (x y : ℤ) → y ≤ℤ x → int_lt x y ≡ false
lt_no x y h = grind (arith, ints)

pub part_some : (e : EdgeParts) (low high : ℤ) → low <ℤ high → Some (over e low high) ≡ part_over e low high
part_some e low high lt = rw (lt_yes low high lt) refl

pub part_none : (e : EdgeParts) (low high : ℤ) → high ≤ℤ low → None ≡ part_over e low high
part_none e low high le = rw (lt_no low high le) refl

-- ---- what the parts add up to

both_or : (p q : Bool) → (p ≡ true → q ≡ true → ⊥) → (p && q) ≡ false
both_or true true h = absurd (h refl refl)
both_or true false h = refl
both_or false q h = refl

apart_rows : (low high j : ℤ) → int_lt low high ≡ false → int_le low j ≡ true → int_lt j high ≡ true → ⊥
apart_rows low high j h p q = absurd (grind (arith, ints))

single_none : (o : Operand) (j : ℤ) (some : Line → Bool) (e : EdgeParts) → spans e j ≡ false → sum_among o j some (e ∷ []) ≡ pos 0
single_none o j some e h = sum_none o j some (e ∷ [])
    (All-cons (λ f. (spans f j && some f.line) ≡ (spans f j && false)) e [] (rw h refl)
    (All-nil (λ f. (spans f j && some f.line) ≡ (spans f j && false))))

sum_part : (o : Operand) (j : ℤ) (some : Line → Bool) (e : EdgeParts) (low high : ℤ) (b : Bool) → int_lt low high ≡ b
    → sum_among o j some (option_to_list (cond b (Some (over e low high)) None)) ≡ sum_among o j some
    (over e low high ∷ [])
sum_part o j some e low high true h = refl
sum_part o j some e low high false h = sum_nil o j some ∙ sym (single_none o j some (over e low high) (both_or _ _ (apart_rows low high j h)))

sum_over : (o : Operand) (j : ℤ) (some : Line → Bool) (e : EdgeParts) (low high : ℤ)
    → spans (over e low high) j ≡ spans e j → sum_among o j some (over e low high ∷ []) ≡ sum_among o j some (e ∷ [])
sum_over o j some e low high h = sum_one o j some (over e low high) ∙ (rw h (sym (sum_one o j some e)))

below_spans : (e : EdgeParts) (y j : ℤ) → j <ℤ y → spans (over e e.y0 (int_min e.y1 y)) j ≡ spans e j
below_spans e y j h = let high : int_lt j (int_min e.y1 y) ≡ int_lt j e.y1 = grind (arith, ints, clamps) in rw high refl

below_not : (e : EdgeParts) (y j : ℤ) → y ≤ℤ j → spans (over e e.y0 (int_min e.y1 y)) j ≡ false
below_not e y j h = both_or (int_le e.y0 j) (int_lt j (int_min e.y1 y)) (λ p q. absurd (grind (arith, ints, clamps)))

above_spans : (e : EdgeParts) (y j : ℤ) → y ≤ℤ j → spans (over e (int_max e.y0 y) e.y1) j ≡ spans e j
above_spans e y j h = let low : int_le (int_max e.y0 y) j ≡ int_le e.y0 j = grind (arith, ints, clamps) in rw low refl

above_not : (e : EdgeParts) (y j : ℤ) → j <ℤ y → spans (over e (int_max e.y0 y) e.y1) j ≡ false
above_not e y j h = both_or (int_le (int_max e.y0 y) j) (int_lt j e.y1) (λ p q. absurd (grind (arith, ints, clamps)))

pub parts_add : (y : ℤ) (e : EdgeParts) → AddUp (option_to_list (part_below y e)) (option_to_list (part_above y e)) (e ∷ [])
parts_add y e o j some =
    let below = sum_part o j some e e.y0 (int_min e.y1 y) _ refl in
    let above = sum_part o j some e (int_max e.y0 y) e.y1 _ refl in
    by_lt_z j y
    (λ lt. (let here = sum_over o j some e _ _ (below_spans e y j lt) in
    let none = single_none o j some (over e (int_max e.y0 y) e.y1) (above_not e y j lt) in
    rw (below, above, here, none) (omega (arith, ints))))
    (λ ge. (let here = sum_over o j some e _ _ (above_spans e y j ge) in
    let none = single_none o j some (over e e.y0 (int_min e.y1 y)) (below_not e y j ge) in
    rw (below, above, here, none) (omega (arith, ints))))

-- what an edge has besides the rows of another
not_below : (f : EdgeParts) (j : ℤ) → j <ℤ f.y0 → spans f j ≡ false
not_below f j h = both_or (int_le f.y0 j) (int_lt j f.y1) (λ p q. absurd (grind (arith, ints)))

not_above : (f : EdgeParts) (j : ℤ) → f.y1 ≤ℤ j → spans f j ≡ false
not_above f j h = both_or (int_le f.y0 j) (int_lt j f.y1) (λ p q. absurd (grind (arith, ints)))

in_between : (f : EdgeParts) (j : ℤ) → f.y0 ≤ℤ j → j <ℤ f.y1 → spans f j ≡ true
in_between f j h k =
    let low : int_le f.y0 j ≡ true = grind (arith, ints) in
    let high : int_lt j f.y1 ≡ true = grind (arith, ints) in
    rw (low, high) refl

rest_sum : (o : Operand) (j : ℤ) (some : Line → Bool) (e f : EdgeParts) → f.y0 <ℤ f.y1
    → (sum_among o j some (option_to_list (part_below f.y0 e)) +ℤ sum_among o j some
    (option_to_list (part_above f.y1 e))) ≡ cond (spans f j) (pos 0) (sum_among o j some (e ∷ []))
rest_sum o j some e f rows =
    let below = sum_part o j some e e.y0 (int_min e.y1 f.y0) _ refl in
    let above = sum_part o j some e (int_max e.y0 f.y1) e.y1 _ refl in
    by_lt_z j f.y0
    (λ lt. (let here = sum_over o j some e _ _ (below_spans e f.y0 j lt) in
    let none = single_none o j some (over e (int_max e.y0 f.y1) e.y1) (above_not e f.y1 j (omega (arith, ints, lt, rows))) in
    rw (below, above, here, none, not_below f j lt) (omega (arith, ints))))
    (λ ge. by_lt_z j f.y1
    (λ lt. (let none = single_none o j some (over e e.y0 (int_min e.y1 f.y0)) (below_not e f.y0 j ge) in
    let nothing = single_none o j some (over e (int_max e.y0 f.y1) e.y1) (above_not e f.y1 j lt) in
    rw (below, above, none, nothing, in_between f j ge lt) (omega (arith, ints))))
    (λ over_top. (let none = single_none o j some (over e e.y0 (int_min e.y1 f.y0)) (below_not e f.y0 j ge) in
    let here = sum_over o j some e _ _ (above_spans e f.y1 j over_top) in
    rw (below, above, here, none, not_above f j over_top) (omega (arith, ints)))))

both_rests : (p q : Bool) (a b x y : ℤ) → (p ≡ false → x ≡ pos 0) → (q ≡ false → y ≡ pos 0)
    → (p ≡ true → q ≡ true → (x +ℤ y) ≡ pos 0) → a ≡ cond q (pos 0) x → b ≡ cond p (pos 0) y → (a +ℤ b) ≡ (x +ℤ y)
both_rests true true a b x y hx hy both ha hb = let none = both refl refl in omega (arith, ints, ha, hb, none)
both_rests true false a b x y hx hy both ha hb = let none = hy refl in omega (arith, ints, ha, hb, none)
both_rests false true a b x y hx hy both ha hb = let none = hx refl in omega (arith, ints, ha, hb, none)
both_rests false false a b x y hx hy both ha hb = omega (arith, ints, ha, hb)

pub opposites : (a b c d : Bool) → (c ≡ d → ⊥)
    → pos (count_one (a && (c && b))) -ℤ pos (count_one (a && (not c && b))) ≡ pos
    (count_one (a && (not d && b))) -ℤ pos (count_one (a && (d && b)))
opposites a b true true h = absurd (h refl)
opposites a b true false h = refl
opposites a b false true h = refl
opposites a b false false h = absurd (h refl)

-- edges that go opposite ways on one line add up to nothing in the rows of both
against : (o : Operand) (j : ℤ) (some : Line → Bool) (e f : EdgeParts) → e.line ≡ f.line → (e.up ≡ f.up → ⊥)
    → e.operand ≡ f.operand → spans e j ≡ true → spans f j ≡ true
    → (sum_among o j some (e ∷ []) +ℤ sum_among o j some (f ∷ [])) ≡ pos 0
against o j some e f line up of he hf =
    let opposite = opposites (is_of o f.operand) (true && some f.line) e.up f.up up in
    rw (sum_one o j some e, sum_one o j some f, of, line, he, hf) (omega (arith, ints, opposite))

pub rests_add : (e f : EdgeParts) → e.y0 <ℤ e.y1 → f.y0 <ℤ f.y1 → e.line ≡ f.line → (e.up ≡ f.up → ⊥)
    → e.operand ≡ f.operand → AddUpAlike (rests e f) (e ∷ f ∷ [])
rests_add e f rows_e rows_f line up of o j some =
    let first = rest_sum o j some e f rows_f in
    let second = rest_sum o j some f e rows_e in
    let all = both_rests (spans e j) (spans f j) _ _ (sum_among o j some (e ∷ [])) (sum_among o j some (f ∷ []))
    (single_none o j some e) (single_none o j some f) (against o j some e f line up of) first second in
    rw (
      sum_append o j some (option_to_list (part_below f.y0 e))
          (option_to_list (part_below e.y0 f)
          ++ (option_to_list (part_above f.y1 e) ++ option_to_list (part_above e.y1 f))),
      sum_append o j some (option_to_list (part_below e.y0 f)) (option_to_list (part_above f.y1 e) ++ option_to_list (part_above e.y1 f)),
      sum_append o j some (option_to_list (part_above f.y1 e)) (option_to_list (part_above e.y1 f)),
      sum_cons o j some e (f ∷ []),
    )
    (omega (arith, ints, all))

pub add_other_way : (own beyond edges : List EdgeParts) → AddUp own beyond edges → AddUp beyond own edges
add_other_way own beyond edges h o j some = let same = h o j some in omega (arith, ints, same)

pub add_left : (e : EdgeParts) → AddUp (option_to_list (Some e)) (option_to_list None) (e ∷ [])
add_left e o j some = rw (sum_nil o j some) (omega (arith, ints))

pub add_right : (e : EdgeParts) → AddUp (option_to_list None) (option_to_list (Some e)) (e ∷ [])
add_right e o j some = rw (sum_nil o j some) (omega (arith, ints))

-- ---- the sides

module _ (P : EdgeParts → Type 0) where
  part_has : (e : EdgeParts) (low high : ℤ) (b : Bool) → int_lt low high ≡ b → (low <ℤ high → P (over e low high))
      → All P (option_to_list (cond b (Some (over e low high)) None))
  part_has e low high true h k = All-cons P (over e low high) [] (k (grind (arith, ints))) (All-nil P)
  part_has e low high false h k = All-nil P

  pub some_has : (e : EdgeParts) → P e → All P (option_to_list (Some e))
  some_has e h = All-cons P e [] h (All-nil P)

  pub none_has : All P (option_to_list None)
  none_has = All-nil P

module _ (x c y : ℤ) (e : EdgeParts) where
  pub rising_left : e.line ≡ Rising c → y ≡ x -ℤ (c +ℤ c) → All (LiesLeft x) (option_to_list (part_below y e))
  rising_left line at = part_has (LiesLeft x) e e.y0 (int_min e.y1 y) _ refl
      (λ lt j s. (let below = s.below in rw line (omega (arith, ints, clamps, below, at))))

  pub rising_right : e.line ≡ Rising c → y ≡ x -ℤ (c +ℤ c) → All (LiesRight x) (option_to_list (part_above y e))
  rising_right line at = part_has (LiesRight x) e (int_max e.y0 y) e.y1 _ refl
      (λ lt j s. (let from = s.from in rw line (omega (arith, ints, clamps, from, at))))

  pub falling_left : e.line ≡ Falling c → y ≡ (c +ℤ c) -ℤ x → All (LiesLeft x) (option_to_list (part_above y e))
  falling_left line at = part_has (LiesLeft x) e (int_max e.y0 y) e.y1 _ refl (λ lt j s. (let from = s.from in rw line (omega (arith, ints, clamps, from, at))))

  pub falling_right : e.line ≡ Falling c → y ≡ (c +ℤ c) -ℤ x → All (LiesRight x) (option_to_list (part_below y e))
  falling_right line at = part_has (LiesRight x) e e.y0 (int_min e.y1 y) _ refl
      (λ lt j s. (let below = s.below in rw line (omega (arith, ints, clamps, below, at))))

-- ---- the row in which a line passes the cut

fits : (n : ℤ) → IsWithinReach n → FitsSigned w64 n
fits n h = let low = h.low in let high = h.high in omega (arith, ints)

twice_fits : (n : ℤ) → IsWithinReach n → FitsSigned w64 (pos 2 *ℤ n)
twice_fits n h = let low = h.low in let high = h.high in omega (arith, ints)

pub rising_level : (x c : ℤ) → IsWithinReach x → IsWithinReach c
    → to_z w64 (of_z w64 (to_z w64 (of_z w64 x) -ℤ to_z w64 (of_z w64 (pos 2 *ℤ to_z w64 (of_z w64 c)))))
    ≡ x -ℤ (c +ℤ c)
rising_level x c hx hc =
    let all : FitsSigned w64 (x -ℤ (pos 2 *ℤ c)) = (let a = hx.low in let b = hx.high in let d = hc.low in let e = hc.high in omega (arith, ints)) in
    rw (
      to_z-of_z w64 x (fits x hx),
      to_z-of_z w64 c (fits c hc),
      to_z-of_z w64 (pos 2 *ℤ c)
          (twice_fits c hc),
      to_z-of_z w64 (x -ℤ (pos 2 *ℤ c)) all,
    ) (omega (arith, ints))

pub falling_level : (x c : ℤ) → IsWithinReach x → IsWithinReach c
    → to_z w64 (of_z w64 (to_z w64 (of_z w64 (pos 2 *ℤ to_z w64 (of_z w64 c))) -ℤ to_z w64 (of_z w64 x)))
    ≡ (c +ℤ c) -ℤ x
falling_level x c hx hc =
    let all : FitsSigned w64 ((pos 2 *ℤ c) -ℤ x) = (let a = hx.low in let b = hx.high in let d = hc.low in let e = hc.high in omega (arith, ints)) in
    rw (
      to_z-of_z w64 x (fits x hx),
      to_z-of_z w64 c (fits c hc),
      to_z-of_z w64 (pos 2 *ℤ c)
          (twice_fits c hc),
      to_z-of_z w64 ((pos 2 *ℤ c) -ℤ x) all,
    ) (omega (arith, ints))

pub same_line : (c d : ℤ) (l m : Line) → first_strip l ≡ c → first_strip m ≡ d → l ≡ m → c ≡ d
same_line c d l m h k e = sym h ∙ (ap (λ (n : Line). first_strip n) e ∙ k)
