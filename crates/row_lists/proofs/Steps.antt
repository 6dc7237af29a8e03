-- The weight of a line, edge by edge: it is the step of the winding from one tile to the next, and is the same in two
-- rows that the same edges span.
use Rattle.std.proofs.Common.{ℕ, ℤ, pos, ◌≡◌, ◌+◌, ◌+ℤ◌, ◌-ℤ◌, ◌≤ℤ◌, ◌<ℤ◌, ◌⊎◌, inl, inr, Bool, true, false, ◌&&◌, not}
use Rattle.std.proofs.Common.{List, [], ◌∷◌, int_le, arith, refl, ap, sym, ◌∙◌}
use Rattle.std.specs.Ordering.{int_eq}
use Rattle.std.proofs.lemmas.Int.{ints, by_lt_z}
use Rattle.std.proofs.lemmas.List.Elements.{All-head, All-tail}
use Rattle.half_grid.specs.Edges.{EdgeParts, spans, is_of, edges_winding}
use Rattle.half_grid.specs.Lines.{strip_along, first_strip}
use Rattle.half_grid.specs.Rows.{number_in_row, place}
use Rattle.half_grid.specs.Winding.{count_one}
use Rattle.half_grid.specs.declared.plane.Tile.{Tile}
use Rattle.half_grid.specs.declared.plane.Line.{Line}
use Rattle.half_grid.specs.declared.border.Operand.{Operand}
use Rattle.half_grid.proofs.ForCallers.{count_by-cons, right_by_place, left_by_place, le_yes, le_no, int_eq_same}
use Rattle.half_grid.proofs.ForCallers.{int_eq_other, int_eq_true, int_eq_false, one_line}
use Rattle.scan_line.proofs.ForCallers.{part, winding_nil, winding_cons}
use Rattle.row_lists.specs.Weights.{stands_up, stands_down, weight, IsOutside, NoEnds, NoneSpans}

-- what one edge adds to the weight
abbrev pub share : Operand → ℤ → ℤ → EdgeParts → ℤ
share o j n e = pos (count_one (stands_up o j n e)) -ℤ pos (count_one (stands_down o j n e))

split : (a b c d e f : ℕ) → a ≡ c + e → b ≡ d + f → pos a -ℤ pos b ≡ (pos c -ℤ pos d) +ℤ (pos e -ℤ pos f)
split a b c d e f h k = omega (arith, ints)

pub weight_cons : (o : Operand) (e : EdgeParts) (edges : List EdgeParts) (j n : ℤ) → weight o (e ∷ edges) j n ≡ share o j n e +ℤ weight o edges j n
unfolding weight
weight_cons o e edges j n = split _ _ _ _ _ _ (count_by-cons (stands_up o j n) e edges) (count_by-cons (stands_down o j n) e edges)

pub weight_nil : (o : Operand) (j n : ℤ) → weight o [] j n ≡ pos 0
unfolding weight
weight_nil o j n = refl

-- ---- the step of the winding

signed : (of up sp rt ru at : Bool) → count_one rt ≡ count_one ru + count_one at
    → pos (count_one (of && (up && (sp && rt)))) -ℤ pos (count_one (of && (not up && (sp && rt))))
    ≡ (pos (count_one (of && (up && (sp && ru)))) -ℤ pos (count_one (of && (not up && (sp && ru)))))
    +ℤ (pos (count_one (of && (up && (sp && at)))) -ℤ pos (count_one (of && (not up && (sp && at)))))
signed false up sp rt ru at h = refl
signed true true false rt ru at h = refl
signed true false false rt ru at h = refl
signed true true true rt ru at h = omega (arith, ints, h)
signed true false true rt ru at h = omega (arith, ints, h)

-- a tile, and the one left of it: the line is left of both, between them, or right of both
right_step : (line : Line) (t u : Tile) → u.j ≡ t.j → (number_in_row u +ℤ pos 1) ≡ number_in_row t
    → count_one (int_le (first_strip line) (strip_along line t))
    ≡ count_one (int_le (first_strip line) (strip_along line u)) + count_one (int_eq (place line t.j) (number_in_row t))
right_step line t u row next =
    by_lt_z (number_in_row t) (place line t.j)
    (λ lt. (let a = le_no (first_strip line) (strip_along line t) (left_by_place t line lt) in
    let b = le_no (first_strip line) (strip_along line u) (left_by_place u line (rw row (omega (arith, ints, lt, next)))) in
    let c = int_eq_other (place line t.j) (number_in_row t) (λ e. absurd (omega (arith, ints, lt, e))) in
    rw (a, b, c) refl))
    (λ le. (let a = le_yes (first_strip line) (strip_along line t) (right_by_place t line le) in
    by_lt_z (number_in_row u) (place line t.j)
    (λ lt. (let b = le_no (first_strip line) (strip_along line u) (left_by_place u line (rw row lt)) in
    let c = int_eq_same (place line t.j) (number_in_row t) (omega (arith, ints, le, lt, next)) in
    rw (a, b, c) refl))
    (λ far. (let b = le_yes (first_strip line) (strip_along line u) (right_by_place u line (rw row far)) in
    let c = int_eq_other (place line t.j) (number_in_row t) (λ e. absurd (omega (arith, ints, far, next, e))) in
    rw (a, b, c) refl))))

part_step : (o : Operand) (e : EdgeParts) (t u : Tile) → u.j ≡ t.j → (number_in_row u +ℤ pos 1) ≡ number_in_row t
    → part o t e ≡ part o u e +ℤ share o t.j (number_in_row t) e
part_step o e t u row next =
    let s : spans e u.j ≡ spans e t.j = ap (spans e) row in
    rw s (signed (is_of o e.operand) e.up (spans e t.j) (int_le (first_strip e.line) (strip_along e.line t)) (int_le (first_strip e.line)
    (strip_along e.line u)) (int_eq (place e.line t.j) (number_in_row t)) (right_step e.line t u row next))

zero_step : (x y z : ℤ) → x ≡ pos 0 → y ≡ pos 0 → z ≡ pos 0 → x ≡ y +ℤ z
zero_step x y z a b c = omega (arith, ints, a, b, c)

sum_step : (w p x v q y m s z : ℤ) → w ≡ p +ℤ x → v ≡ q +ℤ y → m ≡ s +ℤ z → p ≡ q +ℤ s → x ≡ y +ℤ z → w ≡ v +ℤ m
sum_step w p x v q y m s z a b c d e = omega (arith, ints, a, b, c, d, e)

-- from a tile to the next one to the right the winding changes by the weight of the line between them
pub winding_step : (o : Operand) (edges : List EdgeParts) (t u : Tile) → u.j ≡ t.j → (number_in_row u +ℤ pos 1) ≡ number_in_row t
    → edges_winding o edges t ≡ edges_winding o edges u +ℤ weight o edges t.j (number_in_row t)
winding_step o [] t u row next = zero_step _ _ _ (winding_nil o t) (winding_nil o u) (weight_nil o t.j (number_in_row t))
winding_step o (e ∷ edges) t u row next =
    sum_step _ (part o t e) (edges_winding o edges t) _ (part o u e) (edges_winding o edges u) _ (share o t.j (number_in_row t) e)
    (weight o edges t.j (number_in_row t)) (winding_cons o e edges t) (winding_cons o e edges u) (weight_cons o e edges t.j (number_in_row t))
    (part_step o e t u row next) (winding_step o edges t u row next)

-- ---- the same weight in two rows

same_spans : (e : EdgeParts) (j k : ℤ) → j ≤ℤ k → IsOutside j k e.y0 → IsOutside j k e.y1 → spans e j ≡ spans e k
same_spans e j k h (inl a) (inl b) = grind (arith, ints)
same_spans e j k h (inl a) (inr b) = grind (arith, ints)
same_spans e j k h (inr a) (inl b) = grind (arith, ints)
same_spans e j k h (inr a) (inr b) = grind (arith, ints)

same_place_by : (b : Bool) (l m : Line) (j k : ℤ) → int_eq (place l j) (place m j) ≡ b → b ≡ int_eq (place l k) (place m k)
same_place_by true l m j k h = sym (int_eq_same _ _ (ap (λ (x : Line). place x k) (one_line l m j (int_eq_true _ _ h))))
same_place_by false l m j k h = sym (int_eq_other _ _ (λ e. int_eq_false _ _ h (ap (λ (x : Line). place x j) (one_line l m k e))))

pub same_place : (l m : Line) (j k : ℤ) → int_eq (place l j) (place m j) ≡ int_eq (place l k) (place m k)
same_place l m j k = same_place_by _ l m j k refl

same_share : (o : Operand) (e : EdgeParts) (line : Line) (j k : ℤ) → spans e j ≡ spans e k → share o j (place line j) e ≡ share o k (place line k) e
same_share o e line j k s = let p = same_place e.line line j k in rw (s, p) refl

pub same_weight : (o : Operand) (edges : List EdgeParts) (line : Line) (j k : ℤ) → j ≤ℤ k → NoEnds edges j k
    → weight o edges j (place line j) ≡ weight o edges k (place line k)
same_weight o [] line j k h none = weight_nil o j (place line j) ∙ sym (weight_nil o k (place line k))
same_weight o (e ∷ edges) line j k h none =
    let P : EdgeParts → Type 0 = λ f. IsOutside j k f.y0 × IsOutside j k f.y1 in
    let here = All-head P e edges none in
    let first = same_share o e line j k (same_spans e j k h here.0 here.1) in
    let later = same_weight o edges line j k h (All-tail P e edges none) in
    weight_cons o e edges j (place line j) ∙ ((rw (first, later) refl) ∙ sym (weight_cons o e edges k (place line k)))

at_false : (of up sp : Bool) → pos (count_one (of && (up && (sp && false)))) -ℤ pos (count_one (of && (not up && (sp && false)))) ≡ pos 0
at_false false up sp = refl
at_false true true true = refl
at_false true true false = refl
at_false true false true = refl
at_false true false false = refl

-- an edge at another place has no share
pub other_share : (o : Operand) (e : EdgeParts) (j n : ℤ) → int_eq (place e.line j) n ≡ false → share o j n e ≡ pos 0
other_share o e j n h = rw h (at_false (is_of o e.operand) e.up (spans e j))

-- ---- a row that no edge spans

spans_none : (e : EdgeParts) (j : ℤ) → (j <ℤ e.y0) ⊎ (e.y1 ≤ℤ j) → spans e j ≡ false
spans_none e j (inl h) = grind (arith, ints)
spans_none e j (inr h) = grind (arith, ints)

no_share : (of up at : Bool) → pos (count_one (of && (up && (false && at)))) -ℤ pos (count_one (of && (not up && (false && at)))) ≡ pos 0
no_share false up at = refl
no_share true true at = refl
no_share true false at = refl

pub no_weight : (o : Operand) (edges : List EdgeParts) (j n : ℤ) → NoneSpans edges j → weight o edges j n ≡ pos 0
no_weight o [] j n none = weight_nil o j n
no_weight o (e ∷ edges) j n none =
    let P : EdgeParts → Type 0 = λ f. (j <ℤ f.y0) ⊎ (f.y1 ≤ℤ j) in
    let s = spans_none e j (All-head P e edges none) in
    let first : share o j n e ≡ pos 0 = rw s (no_share (is_of o e.operand) e.up (int_eq (place e.line j) n)) in
    let later = no_weight o edges j n (All-tail P e edges none) in
    weight_cons o e edges j n ∙ (rw (first, later) refl)
