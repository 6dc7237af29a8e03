-- From the row below a stop to the row above it.
use Rattle.std.proofs.Common.{ℤ, pos, ◌≡◌, ◌≢◌, ◌+ℤ◌, ◌-ℤ◌, ◌≤ℤ◌, ◌<ℤ◌, ◌⊎◌, inl, inr, Bool, true, false, List, [], ◌∷◌}
use Rattle.std.proofs.Common.{◌++◌, All, arith, refl, ap, sym, subst, ◌∙◌}
use Rattle.std.specs.Int.{int_min}
use Rattle.std.specs.Ordering.{int_eq}
use Rattle.std.proofs.lemmas.Int.{ints, clamps, by_lt_z}
use Rattle.std.proofs.lemmas.List.Elements.{All-nil, All-cons, All-head, All-tail, All-append, All-weaker}
use Rattle.half_grid.specs.Edges.{EdgeParts}
use Rattle.half_grid.specs.Lines.{x_on}
use Rattle.half_grid.specs.Rows.{place}
use Rattle.half_grid.specs.declared.border.Operand.{Operand}
use Rattle.half_grid.specs.declared.plane.Line.{Line}
use Rattle.half_grid.specs.declared.plane.Line.TheVariants.{Upright, Rising, Falling}
use Rattle.half_grid.proofs.ForCallers.{int_eq_other}
use Rattle.active_lines.specs.declared.item.ActiveLine.{ActiveLine}
use Rattle.active_lines.specs.declared.item.Windings.{Windings}
use Rattle.row_lists.specs.Weights.{weight}
use Rattle.row_lists.specs.RowLists.{IsRowList, AscendIn, ChangeAtEach, NoMeetings, no_windings, change_at}
use Rattle.row_lists.specs.RowRuns.{last_windings}
use Rattle.row_lists.specs.Halfway.{PassLeft, PassAtOrRight, PassAt, IsHalfway, KeepWeights, AreThrough}
use Rattle.row_lists.proofs.Steps.{weight_nil, weight_cons, other_share}
use Rattle.row_lists.proofs.Windings.{still_ascend, same_change, HasLineAt, weight_or_line, change_or_line}

-- ---- the order at a stop is that in the rows on both sides of it

pub above_order : (l m : Line) (y : ℤ) → x_on l y <ℤ x_on m y → place l y <ℤ place m y
above_order (Upright c) (Upright d) y h = omega (arith, ints)
above_order (Upright c) (Rising d) y h = omega (arith, ints)
above_order (Upright c) (Falling d) y h = omega (arith, ints)
above_order (Rising c) (Upright d) y h = omega (arith, ints)
above_order (Rising c) (Rising d) y h = omega (arith, ints)
above_order (Rising c) (Falling d) y h = omega (arith, ints)
above_order (Falling c) (Upright d) y h = omega (arith, ints)
above_order (Falling c) (Rising d) y h = omega (arith, ints)
above_order (Falling c) (Falling d) y h = omega (arith, ints)

pub below_order : (l m : Line) (y : ℤ) → x_on l y <ℤ x_on m y → place l (y -ℤ pos 1) <ℤ place m (y -ℤ pos 1)
below_order (Upright c) (Upright d) y h = omega (arith, ints)
below_order (Upright c) (Rising d) y h = omega (arith, ints)
below_order (Upright c) (Falling d) y h = omega (arith, ints)
below_order (Rising c) (Upright d) y h = omega (arith, ints)
below_order (Rising c) (Rising d) y h = omega (arith, ints)
below_order (Rising c) (Falling d) y h = omega (arith, ints)
below_order (Falling c) (Upright d) y h = omega (arith, ints)
below_order (Falling c) (Rising d) y h = omega (arith, ints)
below_order (Falling c) (Falling d) y h = omega (arith, ints)

-- ---- lists that follow one another

-- no line of the list stands at the place
abbrev pub NotAt : ℤ → ℤ → List ActiveLine → Type 0
NotAt j n lines = All (λ m. place m.line j ≢ n) lines

no_change_there : (o : Operand) (j n : ℤ) (w : Windings) (lines : List ActiveLine) → NotAt j n lines → change_at o j n w lines ≡ pos 0
no_change_there o j n w [] h = refl
no_change_there o j n w (l ∷ lines) h =
    let P : ActiveLine → Type 0 = λ m. place m.line j ≢ n in
    let other = int_eq_other (place l.line j) n (All-head P l lines h) in
    rw other (no_change_there o j n l.windings lines (All-tail P l lines h))

change_left_by : (b : Bool) (o : Operand) (j n : ℤ) (w : Windings) (l : ActiveLine) (xs ys : List ActiveLine) → int_eq (place l.line j) n ≡ b
    → change_at o j n l.windings (xs ++ ys) ≡ change_at o j n l.windings xs → change_at o j n w (l ∷ (xs ++ ys)) ≡ change_at o j n w (l ∷ xs)
change_left_by true o j n w l xs ys e h = rw e refl
change_left_by false o j n w l xs ys e h = rw e h

pub change_left : (o : Operand) (j n : ℤ) (w : Windings) (xs ys : List ActiveLine) → NotAt j n ys → change_at o j n w (xs ++ ys) ≡ change_at o j n w xs
change_left o j n w [] ys h = no_change_there o j n w ys h
change_left o j n w (l ∷ xs) ys h = change_left_by _ o j n w l xs ys refl (change_left o j n l.windings xs ys h)

pub change_right : (o : Operand) (j n : ℤ) (w : Windings) (xs ys : List ActiveLine) → NotAt j n xs
    → change_at o j n w (xs ++ ys) ≡ change_at o j n (last_windings w xs) ys
change_right o j n w [] ys h = refl
change_right o j n w (l ∷ xs) ys h =
    let P : ActiveLine → Type 0 = λ m. place m.line j ≢ n in
    let other = int_eq_other (place l.line j) n (All-head P l xs h) in
    rw other (change_right o j n l.windings xs ys (All-tail P l xs h))

pub last_append : (w : Windings) (xs ys : List ActiveLine) → last_windings w (xs ++ ys) ≡ last_windings (last_windings w xs) ys
last_append w [] ys = refl
last_append w (l ∷ xs) ys = last_append l.windings xs ys

change_first : (w : Windings) (xs ys : List ActiveLine) → ChangeAtEach w (xs ++ ys) → ChangeAtEach w xs
change_first w [] ys h = tt
change_first w (l ∷ xs) ys h = (h.0, change_first l.windings xs ys h.1)

change_rest : (w : Windings) (xs ys : List ActiveLine) → ChangeAtEach w (xs ++ ys) → ChangeAtEach (last_windings w xs) ys
change_rest w [] ys h = h
change_rest w (l ∷ xs) ys h = change_rest l.windings xs ys h.1

change_both : (w : Windings) (xs ys : List ActiveLine) → ChangeAtEach w xs → ChangeAtEach (last_windings w xs) ys → ChangeAtEach w (xs ++ ys)
change_both w [] ys h k = k
change_both w (l ∷ xs) ys h k = (h.0, change_both l.windings xs ys h.1 k)

first_all : (P : ActiveLine → Type 0) (xs ys : List ActiveLine) → All P (xs ++ ys) → All P xs
first_all P [] ys h = All-nil P
first_all P (x ∷ xs) ys h = All-cons P x xs (All-head P x (xs ++ ys) h) (first_all P xs ys (All-tail P x (xs ++ ys) h))

rest_all : (P : ActiveLine → Type 0) (xs ys : List ActiveLine) → All P (xs ++ ys) → All P ys
rest_all P [] ys h = h
rest_all P (x ∷ xs) ys h = rest_all P xs ys (All-tail P x (xs ++ ys) h)

ascend_first : (j : ℤ) (xs ys : List ActiveLine) → AscendIn j (xs ++ ys) → AscendIn j xs
ascend_first j [] ys h = tt
ascend_first j (x ∷ xs) ys h = (first_all (λ m. place x.line j <ℤ place m.line j) xs ys h.0, ascend_first j xs ys h.1)

ascend_rest : (j : ℤ) (xs ys : List ActiveLine) → AscendIn j (xs ++ ys) → AscendIn j ys
ascend_rest j [] ys h = h
ascend_rest j (x ∷ xs) ys h = ascend_rest j xs ys h.1

-- lines left of a point, and then lines at it or right of it
ascend_both : (y x : ℤ) (xs ys : List ActiveLine) → AscendIn y xs → AscendIn y ys → PassLeft y x xs → PassAtOrRight y x ys → AscendIn y (xs ++ ys)
ascend_both y x [] ys h k left right = k
ascend_both y x (l ∷ xs) ys h k left right =
    let P : ActiveLine → Type 0 = λ m. x_on m.line y <ℤ x in
    let here = All-head P l xs left in
    let far = All-weaker (λ m. x ≤ℤ x_on m.line y) (λ m. place l.line y <ℤ place m.line y) (λ m q. above_order l.line m.line y (omega
    (arith, ints, here, q))) ys right in
    (All-append (λ m. place l.line y <ℤ place m.line y) xs ys h.0 far, ascend_both y x xs ys h.1 k (All-tail P l xs left) right)

-- ---- lines elsewhere

differ_left : (l m : Line) (j : ℤ) → place l j <ℤ place m j → place l j ≢ place m j
differ_left l m j h = λ e. absurd (omega (arith, ints, h, e))

differ_right : (l m : Line) (j : ℤ) → place m j <ℤ place l j → place l j ≢ place m j
differ_right l m j h = λ e. absurd (omega (arith, ints, h, e))

left_not_at : (y x : ℤ) (line : Line) (lines : List ActiveLine) → PassLeft y x lines → x ≤ℤ x_on line y → NotAt y (place line y) lines
left_not_at y x line lines h far =
    All-weaker (λ m. x_on m.line y <ℤ x) (λ m. place m.line y ≢ place line y) (λ m q. differ_left m.line line y (above_order m.line line y (omega
    (arith, ints, q, far)))) lines h

right_not_at : (y x : ℤ) (line : Line) (lines : List ActiveLine) → PassAtOrRight y x lines → x_on line y <ℤ x → NotAt y (place line y) lines
right_not_at y x line lines h near =
    All-weaker (λ m. x ≤ℤ x_on m.line y) (λ m. place m.line y ≢ place line y) (λ m q. differ_right m.line line y (above_order line m.line y (omega
    (arith, ints, q, near)))) lines h

left_not_below : (y x : ℤ) (line : Line) (lines : List ActiveLine) → PassLeft y x lines → x ≤ℤ x_on line y
    → NotAt (y -ℤ pos 1) (place line (y -ℤ pos 1)) lines
left_not_below y x line lines h far =
    All-weaker (λ m. x_on m.line y <ℤ x) (λ m. place m.line (y -ℤ pos 1) ≢ place line (y -ℤ pos 1)) (λ m q. differ_left m.line line (y -ℤ pos 1)
    (below_order m.line line y (omega (arith, ints, q, far)))) lines h

right_not_below : (y x : ℤ) (line : Line) (lines : List ActiveLine) → PassAtOrRight y x lines → x_on line y <ℤ x
    → NotAt (y -ℤ pos 1) (place line (y -ℤ pos 1)) lines
right_not_below y x line lines h near =
    All-weaker (λ m. x ≤ℤ x_on m.line y) (λ m. place m.line (y -ℤ pos 1) ≢ place line (y -ℤ pos 1)) (λ m q. differ_right m.line line (y -ℤ pos 1)
    (below_order line m.line y (omega (arith, ints, q, near)))) lines h

-- ---- at a point

module _ (edges : List EdgeParts) (y x : ℤ) (below above : Windings) (before old new after : List ActiveLine)
    (half : IsHalfway edges y x below above before (old ++ after))
    (at : PassAt y x old) (right : PassAtOrRight y (x +ℤ pos 1) after) (through : AreThrough edges y x above new) where
  old_left : PassLeft y (x +ℤ pos 1) old
  old_left = All-weaker (λ l. x_on l.line y ≡ x) (λ l. x_on l.line y <ℤ (x +ℤ pos 1)) (λ l e. omega (arith, ints, e)) old at

  new_left : PassLeft y (x +ℤ pos 1) new
  new_left = All-weaker (λ l. x_on l.line y ≡ x) (λ l. x_on l.line y <ℤ (x +ℤ pos 1)) (λ l e. omega (arith, ints, e)) new through.at

  new_right : PassAtOrRight y x new
  new_right = All-weaker (λ l. x_on l.line y ≡ x) (λ l. x ≤ℤ x_on l.line y) (λ l e. omega (arith, ints, e)) new through.at

  still_left : PassLeft y (x +ℤ pos 1) before
  still_left = All-weaker (λ l. x_on l.line y <ℤ x) (λ l. x_on l.line y <ℤ (x +ℤ pos 1)) (λ l q. omega (arith, ints, q)) before half.left

  new_weights : (o : Operand) (line : Line) → x_on line y <ℤ (x +ℤ pos 1)
      → change_at o y (place line y) no_windings (before ++ new) ≡ weight o edges y (place line y)
  new_weights o line h =
      by_lt_z (x_on line y) x
      (λ lt. change_left o y (place line y) no_windings before new (right_not_at y x line new new_right lt) ∙ half.weights_before o line lt)
      (λ ge. change_right o y (place line y) no_windings before new (left_not_at y x line before half.left ge)
      ∙ (ap (λ (w : Windings). change_at o y (place line y) w new) half.last ∙ through.weights o line (omega (arith, ints, h, ge))))

  rest_weights : (o : Operand) (line : Line) → (x +ℤ pos 1) ≤ℤ x_on line y
      → change_at o (y -ℤ pos 1) (place line (y -ℤ pos 1)) (last_windings below old) after ≡ weight o edges (y -ℤ pos 1) (place line (y -ℤ pos 1))
  rest_weights o line h =
      sym (change_right o (y -ℤ pos 1) (place line (y -ℤ pos 1)) below old after (left_not_below y (x +ℤ pos 1) line old old_left h))
      ∙ half.weights_after o line (omega (arith, ints, h))

  pub passes_point : IsHalfway edges y (x +ℤ pos 1) (last_windings below old) (last_windings above new) (before ++ new) after
  passes_point = record {
    ascend_before = ascend_both y x before new half.ascend_before through.ascend half.left new_right;
    ascend_after = ascend_rest (y -ℤ pos 1) old after half.ascend_after;
    change_before = change_both no_windings before new half.change_before (subst (λ (w : Windings). ChangeAtEach w new) (sym half.last) through.change);
    change_after = change_rest below old after half.change_after;
    left = All-append (λ l. x_on l.line y <ℤ (x +ℤ pos 1)) before new still_left new_left;
    right = right;
    last = last_append no_windings before new ∙ ap (λ (w : Windings). last_windings w new) half.last;
    weights_before = new_weights;
    weights_after = rest_weights;
  }

-- ---- between two points

module _ (edges : List EdgeParts) (y from to : ℤ) (w : Windings) (before lines after : List ActiveLine) (half : IsHalfway edges y from w w before
    (lines ++ after))
    (up : from ≤ℤ to) (left : PassLeft y to lines) (right : PassAtOrRight y to after) (keep : KeepWeights edges y from to) (apart : NoMeetings lines
    (y -ℤ pos 1) y) where
  lines_right : PassAtOrRight y from lines
  lines_right = first_all (λ l. from ≤ℤ x_on l.line y) lines after half.right

  lines_ascend : AscendIn y lines
  lines_ascend = still_ascend (y -ℤ pos 1) y lines (omega (arith, ints)) (ascend_first (y -ℤ pos 1) lines after half.ascend_after) apart

  before_left : PassLeft y to before
  before_left = All-weaker (λ l. x_on l.line y <ℤ from) (λ l. x_on l.line y <ℤ to) (λ l q. omega (arith, ints, q, up)) before half.left

  passed_weights : (o : Operand) (line : Line) → x_on line y <ℤ to
      → change_at o y (place line y) no_windings (before ++ lines) ≡ weight o edges y (place line y)
  passed_weights o line h =
      by_lt_z (x_on line y) from
      (λ lt. change_left o y (place line y) no_windings before lines (right_not_at y from line lines lines_right lt) ∙ half.weights_before o line lt)
      (λ ge. change_right o y (place line y) no_windings before lines (left_not_at y from line before half.left ge)
      ∙ (ap (λ (v : Windings). change_at o y (place line y) v lines) half.last
      ∙ (sym (same_change o line (y -ℤ pos 1) y w lines)
      ∙ (sym (change_left o (y -ℤ pos 1) (place line (y -ℤ pos 1)) w lines after (right_not_below y to line after right h))
      ∙ (half.weights_after o line ge ∙ keep o line ge h)))))

  left_weights : (o : Operand) (line : Line) → to ≤ℤ x_on line y
      → change_at o (y -ℤ pos 1) (place line (y -ℤ pos 1)) (last_windings w lines) after ≡ weight o edges (y -ℤ pos 1) (place line (y -ℤ pos 1))
  left_weights o line h =
      sym (change_right o (y -ℤ pos 1) (place line (y -ℤ pos 1)) w lines after (left_not_below y to line lines left h))
      ∙ half.weights_after o line (omega (arith, ints, h, up))

  pub goes_on_halfway : IsHalfway edges y to (last_windings w lines) (last_windings w lines) (before ++ lines) after
  goes_on_halfway = record {
    ascend_before = ascend_both y from before lines half.ascend_before lines_ascend half.left lines_right;
    ascend_after = ascend_rest (y -ℤ pos 1) lines after half.ascend_after;
    change_before = change_both no_windings before lines half.change_before (subst (λ (v : Windings). ChangeAtEach v lines) (sym half.last)
        (change_first w lines after half.change_after));
    change_after = change_rest w lines after half.change_after;
    left = All-append (λ l. x_on l.line y <ℤ to) before lines before_left left;
    right = right;
    last = last_append no_windings before lines ∙ ap (λ (v : Windings). last_windings v lines) half.last;
    weights_before = passed_weights;
    weights_after = left_weights;
  }

-- ---- left of all

-- an X that no line is left of at the stop
abbrev edge_start : ℤ → List EdgeParts → ℤ
edge_start y [] = pos 0
edge_start y (e ∷ edges) = int_min (x_on e.line y) (edge_start y edges)

abbrev line_start : ℤ → List ActiveLine → ℤ
line_start y [] = pos 0
line_start y (l ∷ lines) = int_min (x_on l.line y) (line_start y lines)

lines_start : (y x : ℤ) (lines : List ActiveLine) → x ≤ℤ line_start y lines → PassAtOrRight y x lines
lines_start y x [] h = All-nil (λ l. x ≤ℤ x_on l.line y)
lines_start y x (l ∷ lines) h =
    All-cons (λ m. x ≤ℤ x_on m.line y) l lines (omega (arith, ints, clamps, h)) (lines_start y x lines (omega (arith, ints, clamps, h)))

none_left : (o : Operand) (y x : ℤ) (edges : List EdgeParts) (line : Line) → x ≤ℤ edge_start y edges → x_on line y <ℤ x
    → weight o edges y (place line y) ≡ pos 0
none_left o y x [] line h lt = weight_nil o y (place line y)
none_left o y x (e ∷ edges) line h lt =
    let right : x_on line y <ℤ x_on e.line y = omega (arith, ints, clamps, h, lt) in
    let other = int_eq_other (place e.line y) (place line y) (differ_right e.line line y (above_order line e.line y right)) in
    let first = other_share o e y (place line y) other in
    let later = none_left o y x edges line (omega (arith, ints, clamps, h)) lt in
    weight_cons o e edges y (place line y) ∙ (rw (first, later) refl)

pub begins_halfway : (edges : List EdgeParts) (y : ℤ) (lines : List ActiveLine) → IsRowList edges (y -ℤ pos 1) lines
    → (x : ℤ) × IsHalfway edges y x no_windings no_windings [] lines
begins_halfway edges y lines list = (
  int_min (edge_start y edges) (line_start y lines),
  record {
    ascend_before = tt;
    ascend_after = list.ascend;
    change_before = tt;
    change_after = list.change;
    left = All-nil (λ l. x_on l.line y <ℤ int_min (edge_start y edges) (line_start y lines));
    right = lines_start y (int_min (edge_start y edges) (line_start y lines)) lines (omega (arith, ints, clamps));
    last = refl;
    weights_before = λ o line h. sym (none_left o y (int_min (edge_start y edges) (line_start y lines)) edges line (omega (arith, ints, clamps)) h);
    weights_after = λ o line h. list.weights o (place line (y -ℤ pos 1));
  },
)

-- ---- at the end

module _ (edges : List EdgeParts) (y x : ℤ) (w : Windings) (lines : List ActiveLine) (half : IsHalfway edges y x w w lines []) (keep : (to : ℤ)
    → KeepWeights edges y x to) where
  whole_at : (o : Operand) (line : Line) → change_at o y (place line y) no_windings lines ≡ weight o edges y (place line y)
  whole_at o line =
      by_lt_z (x_on line y) x
      (λ lt. half.weights_before o line lt)
      (λ ge. no_change_there o y (place line y) no_windings lines (left_not_at y x line lines half.left ge)
      ∙ (half.weights_after o line ge ∙ keep (x_on line y +ℤ pos 1) o line ge (omega (arith, ints))))

  whole_by : (o : Operand) (n : ℤ) → HasLineAt y n → change_at o y n no_windings lines ≡ weight o edges y n
  whole_by o n h = subst (λ (m : ℤ). change_at o y m no_windings lines ≡ weight o edges y m) h.at (whole_at o h.line)

  whole_weights : (o : Operand) (n : ℤ) → (change_at o y n no_windings lines ≡ pos 0) ⊎ HasLineAt y n → (weight o edges y n ≡ pos 0) ⊎ HasLineAt y n
      → change_at o y n no_windings lines ≡ weight o edges y n
  whole_weights o n (inr h) v = whole_by o n h
  whole_weights o n (inl c) (inr h) = whole_by o n h
  whole_weights o n (inl c) (inl v) = c ∙ sym v

  pub ends_halfway : IsRowList edges y lines
  ends_halfway = record {
    ascend = half.ascend_before;
    change = half.change_before;
    weights = λ o n. whole_weights o n (change_or_line o lines no_windings y n) (weight_or_line o edges y n);
  }
