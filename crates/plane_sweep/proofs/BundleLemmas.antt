-- The lines through a point, by their weights.
use Rattle.std.proofs.Common.{ℕ, ℤ, pos, negsuc, ◌≡◌, ◌≢◌, ◌+◌, ◌+ℤ◌, ◌-ℤ◌, ◌≤ℤ◌, ◌<ℤ◌, ◌⊎◌, inl, inr, Bool, true}
use Rattle.std.proofs.Common.{false, ◌&&◌, not, List, [], ◌∷◌, ◌++◌, Option, Some, None, drop, All, append-nil}
use Rattle.std.proofs.Common.{append_assoc, arith, refl, ap, sym, subst, ◌∙◌}
use Rattle.std.specs.Ordering.{int_eq}
use Rattle.std.proofs.lemmas.Int.{ints}
use Rattle.std.proofs.lemmas.List.Elements.{All-nil, All-cons, All-head, All-tail, All-append, All-weaker}
use Rattle.half_grid.specs.Edges.{is_of}
use Rattle.half_grid.specs.Lines.{x_on}
use Rattle.half_grid.specs.Rows.{place}
use Rattle.half_grid.specs.Winding.{count_one}
use Rattle.half_grid.specs.declared.plane.Line.{Line}
use Rattle.half_grid.specs.declared.plane.Line.TheVariants.{Upright, Rising, Falling}
use Rattle.half_grid.specs.declared.border.Operand.{Operand}
use Rattle.half_grid.specs.declared.border.Operand.TheVariants.{A, B}
use Rattle.half_grid.proofs.ForCallers.{count_by-cons, int_eq_same, int_eq_other}
use Rattle.active_lines.specs.declared.item.ActiveLine.{ActiveLine}
use Rattle.active_lines.specs.declared.item.Windings.{Windings}
use Rattle.row_lists.specs.declared.event.Event.{Event}
use Rattle.row_lists.specs.RowLists.{winding_of, AscendIn, ChangeAtEach, change_at}
use Rattle.row_lists.specs.RowRuns.{last_windings}
use Rattle.row_lists.specs.Halfway.{PassAt}
use Rattle.row_lists.specs.Events.{adds_at, takes_at, is_at, amount}
use Rattle.row_lists.proofs.ForCallers.{change_left, change_right, last_append}
use Rattle.plane_sweep.specs.declared.bundle.Bundle.{Bundle}
use Rattle.plane_sweep.specs.Bundles.{added, less, weight_in, with_weight, IsBundleOf, IsEmptyBundle, HasChangesOf}
use Rattle.plane_sweep.specs.Bundles.{sign_of, change_for, change_of, AreOnLines, AreEventsAt, HasPassed, first_event}

-- ---- two lines through one point

-- the one line's weight and places are none of the other's
pub record AreOthers (l m : Line) (y : ℤ) : Type 0 where
  pub weight : (b : Bundle) (w : Windings) → weight_in (with_weight b l w) m ≡ weight_in b m
  pub below : place l (y -ℤ pos 1) ≢ place m (y -ℤ pos 1)
  pub above : place l y ≢ place m y

pub one_or_other : (l m : Line) (y : ℤ) → x_on l y ≡ x_on m y → (l ≡ m) ⊎ AreOthers l m y
one_or_other (Upright c) (Upright d) y h = inl (ap Upright h)
one_or_other (Rising c) (Rising d) y h = (let same : c ≡ d = omega (arith, ints, h) in inl (ap Rising same))
one_or_other (Falling c) (Falling d) y h = (let same : c ≡ d = omega (arith, ints, h) in inl (ap Falling same))
one_or_other (Upright c) (Rising d) y h = inr
    (record {
      weight = λ b w. refl;
      below = λ e. absurd (omega (arith, ints, h, e));
      above = λ e. absurd
          (omega (arith, ints, h, e));
    })
one_or_other (Upright c) (Falling d) y h = inr
    (record {
      weight = λ b w. refl;
      below = λ e. absurd (omega (arith, ints, h, e));
      above = λ e. absurd
          (omega (arith, ints, h, e));
    })
one_or_other (Rising c) (Upright d) y h = inr
    (record {
      weight = λ b w. refl;
      below = λ e. absurd (omega (arith, ints, h, e));
      above = λ e. absurd
          (omega (arith, ints, h, e));
    })
one_or_other (Rising c) (Falling d) y h = inr
    (record {
      weight = λ b w. refl;
      below = λ e. absurd (omega (arith, ints, h, e));
      above = λ e. absurd
          (omega (arith, ints, h, e));
    })
one_or_other (Falling c) (Upright d) y h = inr
    (record {
      weight = λ b w. refl;
      below = λ e. absurd (omega (arith, ints, h, e));
      above = λ e. absurd
          (omega (arith, ints, h, e));
    })
one_or_other (Falling c) (Rising d) y h = inr
    (record {
      weight = λ b w. refl;
      below = λ e. absurd (omega (arith, ints, h, e));
      above = λ e. absurd
          (omega (arith, ints, h, e));
    })

own_weight : (b : Bundle) (l : Line) (w : Windings) → weight_in (with_weight b l w) l ≡ added (weight_in b l) w
own_weight b (Upright c) w = refl
own_weight b (Rising c) w = refl
own_weight b (Falling c) w = refl

winding_added : (o : Operand) (v w : Windings) → winding_of o (added v w) ≡ winding_of o v +ℤ winding_of o w
winding_added A v w = refl
winding_added B v w = refl

winding_less : (o : Operand) (v w : Windings) → winding_of o (less v w) ≡ winding_of o v -ℤ winding_of o w
winding_less A v w = refl
winding_less B v w = refl

-- ---- one line more

-- no line of these is at the place
not_among : (j : ℤ) (lines : List ActiveLine) (l : ActiveLine) → AscendIn j (lines ++ l ∷ []) → All (λ m. place m.line j ≢ place l.line j) lines
not_among j [] l h = All-nil (λ m. place m.line j ≢ place l.line j)
not_among j (m ∷ lines) l h =
    All-cons (λ k. place k.line j ≢ place l.line j) m lines
    (λ e. (let lt = last_of lines h.0 in absurd (omega (arith, ints, lt, e)))) (not_among j lines l h.1)
  where
    last_of : (ks : List ActiveLine) → All (λ k. place m.line j <ℤ place k.line j) (ks ++ l ∷ []) → place m.line j <ℤ place l.line j
    last_of [] a = All-head (λ k. place m.line j <ℤ place k.line j) l [] a
    last_of (k ∷ ks) a = last_of ks (All-tail (λ n. place m.line j <ℤ place n.line j) k (ks ++ l ∷ []) a)

pub ascend_first : (j : ℤ) (xs ys : List ActiveLine) → AscendIn j (xs ++ ys) → AscendIn j xs
ascend_first j [] ys h = tt
ascend_first j (x ∷ xs) ys h = (first_all xs h.0, ascend_first j xs ys h.1)
  where
    first_all : (ks : List ActiveLine) → All (λ k. place x.line j <ℤ place k.line j) (ks ++ ys) → All (λ k. place x.line j <ℤ place k.line j) ks
    first_all [] a = All-nil (λ k. place x.line j <ℤ place k.line j)
    first_all (k ∷ ks) a =
        All-cons (λ n. place x.line j <ℤ place n.line j) k ks (All-head (λ n. place x.line j <ℤ place n.line j) k (ks ++ ys) a)
        (first_all ks (All-tail (λ n. place x.line j <ℤ place n.line j) k (ks ++ ys) a))

pub first_all : (P : ActiveLine → Type 0) (xs ys : List ActiveLine) → All P (xs ++ ys) → All P xs
first_all P [] ys h = All-nil P
first_all P (x ∷ xs) ys h = All-cons P x xs (All-head P x (xs ++ ys) h) (first_all P xs ys (All-tail P x (xs ++ ys) h))

pub rest_all : (P : ActiveLine → Type 0) (xs ys : List ActiveLine) → All P (xs ++ ys) → All P ys
rest_all P [] ys h = h
rest_all P (x ∷ xs) ys h = rest_all P xs ys (All-tail P x (xs ++ ys) h)

one_at : (j n : ℤ) (l : ActiveLine) → place l.line j ≢ n → All (λ m. place m.line j ≢ n) (l ∷ [])
one_at j n l h = All-cons (λ m. place m.line j ≢ n) l [] h (All-nil (λ m. place m.line j ≢ n))

change_one : (o : Operand) (j : ℤ) (w : Windings) (l : ActiveLine) → change_at o j (place l.line j) w (l ∷ []) ≡ winding_of o l.windings -ℤ winding_of o w
change_one o j w l = let same = int_eq_same (place l.line j) (place l.line j) refl in rw same refl

-- the changes of the lines with one more at its end
pub change_own : (o : Operand) (j : ℤ) (w : Windings) (lines : List ActiveLine) (l : ActiveLine) → AscendIn j (lines ++ l ∷ [])
    → change_at o j (place l.line j) w (lines ++ l ∷ []) ≡ winding_of o l.windings -ℤ winding_of o (last_windings w lines)
change_own o j w lines l h = change_right o j (place l.line j) w lines (l ∷ []) (not_among j lines l h) ∙ change_one o j (last_windings w lines) l

change_before : (o : Operand) (j : ℤ) (w : Windings) (lines : List ActiveLine) (l : ActiveLine) → AscendIn j (lines ++ l ∷ [])
    → change_at o j (place l.line j) w lines ≡ pos 0
change_before o j w lines l h =
    ap (change_at o j (place l.line j) w) (sym (append-nil lines)) ∙ change_right o j (place l.line j) w lines [] (not_among j lines l h)

sum_own : (a b c d e : ℤ) → a ≡ pos 0 → b ≡ a → c ≡ b +ℤ d → e ≡ d → c ≡ e
sum_own a b c d e h k m n = omega (arith, ints, h, k, m, n)

pub line_more : (below : Windings) (lines : List ActiveLine) (l : ActiveLine) (b : Bundle) → HasChangesOf below lines b
    → HasChangesOf below (lines ++ l ∷ []) (with_weight b l.line (less l.windings (last_windings below lines)))
line_more below lines l b has y x ascend at o m here =
    elim (one_or_other l.line m y (here_too ∙ sym here)) [
      | inl same ↦ subst
          (λ (k : Line). winding_of o
          (weight_in (with_weight b l.line (less l.windings (last_windings below lines))) k) ≡ change_at o
          (y -ℤ pos 1) (place k (y -ℤ pos 1)) below (lines ++ l ∷ []))
          same own
      | inr other ↦ (ap (winding_of o) (other.weight b (less l.windings (last_windings below lines)))
          ∙ (before m here
          ∙ sym (change_left o (y -ℤ pos 1) (place m (y -ℤ pos 1)) below lines (l ∷ []) (one_at (y -ℤ pos 1) (place m (y -ℤ pos 1)) l other.below))))
    ]
  where
    here_too : x_on l.line y ≡ x
    here_too = All-head (λ k. x_on k.line y ≡ x) l [] (rest_all (λ k. x_on k.line y ≡ x) lines (l ∷ []) at)

    before : (k : Line) → x_on k y ≡ x → winding_of o (weight_in b k) ≡ change_at o (y -ℤ pos 1) (place k (y -ℤ pos 1)) below lines
    before k e = has y x (ascend_first (y -ℤ pos 1) lines (l ∷ []) ascend) (first_all (λ n. x_on n.line y ≡ x) lines (l ∷ []) at) o k e

    own : winding_of o (weight_in (with_weight b l.line (less l.windings (last_windings below lines))) l.line)
        ≡ change_at o (y -ℤ pos 1) (place l.line (y -ℤ pos 1)) below (lines ++ l ∷ [])
    own =
        sum_own _ _ _ (winding_of o (less l.windings (last_windings below lines))) _
        (change_before o (y -ℤ pos 1) below lines l ascend) (before l.line here_too)
        (ap (winding_of o) (own_weight b l.line (less l.windings (last_windings below lines))) ∙ winding_added o
        (weight_in b l.line) (less l.windings (last_windings below lines)))
        (change_own o (y -ℤ pos 1) below lines l ascend ∙ sym (winding_less o l.windings (last_windings below lines)))

pub none_has : (below : Windings) (b : Bundle) → IsEmptyBundle b → HasChangesOf below [] b
none_has below b h y x ascend at o m here = h o m

-- ---- one event more

-- what one event adds
abbrev pub share_of : Operand → Line → ℤ → Event → ℤ
share_of o line y e = pos (count_one (adds_at o line y e)) -ℤ pos (count_one (takes_at o line y e))

split : (a b c d e f : ℕ) → a ≡ c + e → b ≡ d + f → pos a -ℤ pos b ≡ (pos c -ℤ pos d) +ℤ (pos e -ℤ pos f)
split a b c d e f h k = omega (arith, ints)

pub amount_cons : (o : Operand) (e : Event) (events : List Event) (line : Line) (y : ℤ)
    → amount o (e ∷ events) line y ≡ share_of o line y e +ℤ amount o events line y
unfolding amount
amount_cons o e events line y = split _ _ _ _ _ _ (count_by-cons (adds_at o line y) e events) (count_by-cons (takes_at o line y) e events)

pub amount_nil : (o : Operand) (line : Line) (y : ℤ) → amount o [] line y ≡ pos 0
unfolding amount
amount_nil o line y = refl

sum_more : (a b c d s : ℤ) → a ≡ s +ℤ b → b ≡ c +ℤ d → a ≡ (s +ℤ c) +ℤ d
sum_more a b c d s h k = omega (arith, ints, h, k)

sum_none : (a b : ℤ) → b ≡ pos 0 → a ≡ b +ℤ a
sum_none a b h = omega (arith, ints, h)

pub amount_append : (o : Operand) (xs ys : List Event) (line : Line) (y : ℤ) → amount o (xs ++ ys) line y ≡ amount o xs line y +ℤ amount o ys line y
amount_append o [] ys line y = sum_none _ _ (amount_nil o line y)
amount_append o (e ∷ xs) ys line y =
    sum_more _ _ _ _ (share_of o line y e) (amount_cons o e (xs ++ ys) line y) (amount_append o xs ys line y)
    ∙ ap (λ (n : ℤ). n +ℤ amount o ys line y) (sym (amount_cons o e xs line y))

no_share : (of up : Bool) → pos (count_one (of && (up && false))) -ℤ pos (count_one (of && (not up && false))) ≡ pos 0
no_share false up = refl
no_share true true = refl
no_share true false = refl

and_false : (b : Bool) → b && false ≡ false
and_false true = refl
and_false false = refl

pub share_elsewhere : (o : Operand) (line : Line) (y : ℤ) (e : Event) → is_at line y e ≡ false → share_of o line y e ≡ pos 0
share_elsewhere o line y e h = rw h (no_share (is_of o e.operand) e.up)

own_share : (o of : Operand) (up : Bool) → pos (count_one (is_of o of && (up && true))) -ℤ pos
    (count_one (is_of o of && (not up && true))) ≡ winding_of o (change_for of (sign_of up))
own_share A A true = refl
own_share A A false = refl
own_share A B true = refl
own_share A B false = refl
own_share B A true = refl
own_share B A false = refl
own_share B B true = refl
own_share B B false = refl

share_here : (o : Operand) (y : ℤ) (e : Event) → e.y ≡ y → share_of o e.line y e ≡ winding_of o (change_of e)
share_here o y e h =
    let first = int_eq_same e.y y h in
    let second = int_eq_same (place e.line y) (place e.line y) refl in
    let both : is_at e.line y e ≡ true = rw (first, second) refl in
    rw both (own_share o e.operand e.up)

other_share : (o : Operand) (m : Line) (y : ℤ) (e : Event) → place e.line y ≢ place m y → share_of o m y e ≡ pos 0
other_share o m y e h =
    let second = int_eq_other (place e.line y) (place m y) h in
    let none : is_at m y e ≡ false = rw second (and_false (int_eq e.y y)) in
    share_elsewhere o m y e none

sum_here : (a b c d s t : ℤ) → a ≡ b +ℤ s → b ≡ c +ℤ d → s ≡ t → a ≡ c +ℤ (d +ℤ t)
sum_here a b c d s t h k m = omega (arith, ints, h, k, m)

sum_same : (b c d t : ℤ) → b ≡ c +ℤ d → t ≡ pos 0 → b ≡ c +ℤ (d +ℤ t)
sum_same b c d t h k = omega (arith, ints, h, k)

amount_last : (o : Operand) (events : List Event) (e : Event) (line : Line) (y : ℤ)
    → amount o (events ++ e ∷ []) line y ≡ amount o events line y +ℤ share_of o line y e
amount_last o events e line y = amount_append o events (e ∷ []) line y ∙ ap (λ (n : ℤ). amount o events line y +ℤ n)
    (amount_cons o e [] line y ∙ last_zero (share_of o line y e) (amount_nil o line y))
  where
    last_zero : (s : ℤ) → amount o [] line y ≡ pos 0 → s +ℤ amount o [] line y ≡ s
    last_zero s h = omega (arith, ints, h)

pub event_more : (y x : ℤ) (weights : Operand → Line → ℤ) (events : List Event) (e : Event) (b : Bundle) → e.y ≡ y → x_on e.line y ≡ x
    → IsBundleOf y x (λ o line. weights o line +ℤ amount o events line y) b
    → IsBundleOf y x (λ o line. weights o line +ℤ amount o (events ++ e ∷ []) line y) (with_weight b e.line (change_of e))
event_more y x weights events e b at on is o m here =
    elim (one_or_other e.line m y (on ∙ sym here)) [
      | inl same ↦ subst (λ (k : Line). winding_of o (weight_in (with_weight b e.line (change_of e)) k) ≡ weights o k
          +ℤ amount o (events ++ e ∷ []) k y) same own
      | inr other ↦ (ap (winding_of o) (other.weight b (change_of e))
          ∙ (sum_same _ (weights o m) (amount o events m y) (share_of o m y e) (is o m here) (other_share o m y e other.above)
          ∙ ap (λ (n : ℤ). weights o m +ℤ n) (sym (amount_last o events e m y))))
    ]
  where
    own : winding_of o (weight_in (with_weight b e.line (change_of e)) e.line) ≡ weights o e.line +ℤ amount o (events ++ e ∷ []) e.line y
    own =
        sum_here _ _ (weights o e.line) (amount o events e.line y) (winding_of o (change_of e)) (share_of o e.line y e)
        (ap (winding_of o) (own_weight b e.line (change_of e)) ∙ winding_added o (weight_in b e.line) (change_of e))
        (is o e.line on) (sym (share_here o y e at))
        ∙ ap (λ (n : ℤ). weights o e.line +ℤ n) (sym (amount_last o events e e.line y))

-- ---- events passed one by one

pub none_passed : (y x : ℤ) (events : List Event) (b : Bundle) → HasPassed y x events events b b
none_passed y x events b = record {
  here = [];
  split = refl;
  at = All-nil (λ (e : Event). (e.y ≡ y) × (e.x ≡ x));
  more = λ on weights is o line at. is o line at ∙ plus_none (weights o line) (amount_nil o line y);
}
  where
    plus_none : (n : ℤ) {m : ℤ} → m ≡ pos 0 → n ≡ n +ℤ m
    plus_none n h = omega (arith, ints, h)

pub one_more_passed : (y x : ℤ) (events : List Event) (e : Event) (left : List Event) (b c : Bundle) → HasPassed y x events (e ∷ left) b c → e.y ≡ y → e.x ≡ x
    → HasPassed y x events left b (with_weight c e.line (change_of e))
one_more_passed y x events e left b c h at_y at_x = record {
  here = h.here ++ e ∷ [];
  split = h.split ∙ sym (append_assoc h.here (e ∷ []) left);
  at = All-append (λ (f : Event). (f.y ≡ y) × (f.x ≡ x)) h.here (e ∷ []) h.at
      (All-cons (λ (f : Event). (f.y ≡ y) × (f.x ≡ x)) e [] (at_y, at_x)
      (All-nil (λ (f : Event). (f.y ≡ y) × (f.x ≡ x))));
  more = λ on weights is. event_more y x weights h.here e c at_y (own_line on) (h.more on weights is);
}
  where
    own_line : AreOnLines events → x_on e.line y ≡ x
    own_line on =
        let here = on_rest h.here (subst AreOnLines h.split on) in
        ap (λ (k : ℤ). x_on e.line k) (sym at_y) ∙ (here ∙ at_x)
      where
        on_rest : (fs : List Event) → AreOnLines (fs ++ e ∷ left) → x_on e.line e.y ≡ e.x
        on_rest [] k = All-head (λ (f : Event). x_on f.line f.y ≡ f.x) e left k
        on_rest (f ∷ fs) k = on_rest fs (All-tail (λ (n : Event). x_on n.line n.y ≡ n.x) f (fs ++ e ∷ left) k)

-- ---- lines passed one by one

-- what was passed of the lines has its changes in the bundle
pub record HasSome (below : Windings) (lines left : List ActiveLine) (b : Bundle) (windings : Windings) : Type 0 where
  pub passed : List ActiveLine
  pub split : lines ≡ passed ++ left
  pub has : HasChangesOf below passed b
  pub last : windings ≡ last_windings below passed

pub some_begin : (below : Windings) (lines : List ActiveLine) (b : Bundle) → IsEmptyBundle b → HasSome below lines lines b below
some_begin below lines b h = record { passed = []; split = refl; has = none_has below b h; last = refl }

pub some_more : (below : Windings) (lines left : List ActiveLine) (l : ActiveLine) (rest : List ActiveLine)
    (b c : Bundle) (w d : Windings) → HasSome below lines left b w → left ≡ l ∷ rest
    → d ≡ less l.windings w → c ≡ with_weight b l.line d → HasSome below lines rest c l.windings
some_more below lines left l rest b c w d h e differ with = record {
  passed = h.passed ++ l ∷ [];
  split = h.split ∙ (ap (λ (ls : List ActiveLine). h.passed ++ ls) e ∙ sym (append_assoc h.passed (l ∷ []) rest));
  has = subst (HasChangesOf below (h.passed ++ l ∷ []))
      (sym (with ∙ ap (with_weight b l.line) (differ ∙ ap (less l.windings) h.last))) (line_more below h.passed l b h.has);
  last = sym (last_append below h.passed (l ∷ []));
}

pub some_end : (below : Windings) (lines left : List ActiveLine) (b : Bundle) (w : Windings)
    → HasSome below lines left b w → left ≡ [] → HasChangesOf below lines b
some_end below lines left b w h e =
    subst (λ (ls : List ActiveLine). HasChangesOf below ls b) (sym (h.split ∙ (ap (λ (ls : List ActiveLine). h.passed ++ ls) e ∙ append-nil h.passed))) h.has

first_then : (events : List Event) (e : Event) → first_event events ≡ Some e → events ≡ e ∷ drop 1 events
first_then [] e h = absurd (let clash : ⊥ = cc in clash)
first_then (f ∷ events) e h = (let same : f ≡ e = cc in ap (λ (k : Event). k ∷ events) same)

pub event_passed : (y x : ℤ) (all events later : List Event) (e : Event) (first b c : Bundle) (w : Windings)
    → HasPassed y x all events first b → first_event events ≡ Some e → e.y ≡ y → e.x ≡ x
    → w ≡ change_of e → c ≡ with_weight b e.line w → later ≡ drop 1 events → HasPassed y x all later first c
event_passed y x all events later e first b c w h here at_y at_x change with rest =
    let split = subst (λ (es : List Event). HasPassed y x all es first b) (first_then events e here) h in
    subst (λ (es : List Event). HasPassed y x all es first c) (sym rest)
    (subst (HasPassed y x all (drop 1 events) first) (sym (with ∙ ap (with_weight b e.line) change))
    (one_more_passed y x all e (drop 1 events) first b split at_y at_x))
