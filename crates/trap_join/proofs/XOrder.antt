-- The order of two lines by their X at a stop, against their places in the rows below and above it.
use Rattle.std.proofs.Common.{◌≡◌, ℤ, pos, ◌+ℤ◌, ◌-ℤ◌, ◌≤ℤ◌, ◌<ℤ◌, Bool, true, false, ◌&&◌, arith, refl, ap, ◌∙◌, sym}
use Rattle.std.proofs.lemmas.Int.{ints}
use Rattle.std.proofs.lemmas.Bool.{false_from_ne_true}
use mathlib.Core.Logic.{◌⊎◌, inl, inr}
use Rattle.half_grid.specs.Lines.{x_on}
use Rattle.half_grid.specs.Rows.{place}
use Rattle.half_grid.specs.declared.plane.Line.{Line}
use Rattle.half_grid.specs.declared.plane.Line.TheVariants.{Upright, Rising, Falling}
use Rattle.half_grid.proofs.ForCallers.{bottom_close, int_eq_true, int_eq_same}
use Rattle.scan_line.specs.declared.runs.Run.{Run}
use Rattle.trap_join.specs.declared.front.Growing.{Growing}
use Rattle.trap_join.specs.Fronts.{is_same_line, goes_on, IsRunFrom, IsGrowingFrom}

-- ---- same lines

pub same_line_is : (l m : Line) → is_same_line l m ≡ true → l ≡ m
same_line_is (Upright c) (Upright d) h = ap Upright (int_eq_true c d h)
same_line_is (Upright c) (Rising d) h = absurd (let clash : ⊥ = cc in clash)
same_line_is (Upright c) (Falling d) h = absurd (let clash : ⊥ = cc in clash)
same_line_is (Rising c) (Upright d) h = absurd (let clash : ⊥ = cc in clash)
same_line_is (Rising c) (Rising d) h = ap Rising (int_eq_true c d h)
same_line_is (Rising c) (Falling d) h = absurd (let clash : ⊥ = cc in clash)
same_line_is (Falling c) (Upright d) h = absurd (let clash : ⊥ = cc in clash)
same_line_is (Falling c) (Rising d) h = absurd (let clash : ⊥ = cc in clash)
same_line_is (Falling c) (Falling d) h = ap Falling (int_eq_true c d h)

pub line_itself : (l : Line) → is_same_line l l ≡ true
line_itself (Upright c) = int_eq_same c c refl
line_itself (Rising c) = int_eq_same c c refl
line_itself (Falling c) = int_eq_same c c refl

pub both_true : (p q : Bool) → p && q ≡ true → (p ≡ true) × (q ≡ true)
both_true true q h = (refl, h)
both_true false q h = absurd (let clash : ⊥ = cc in clash)

pub goes_on_left : (o : Growing) (n : Run) → goes_on o n ≡ true → o.left ≡ n.left
goes_on_left o n h = same_line_is o.left n.left (both_true _ _ h).0

pub goes_on_right : (o : Growing) (n : Run) → goes_on o n ≡ true → o.right ≡ n.right
goes_on_right o n h = same_line_is o.right n.right (both_true _ _ h).1

pub goes_on_by : (o : Growing) (n : Run) → o.left ≡ n.left → o.right ≡ n.right → goes_on o n ≡ true
goes_on_by o n el er = rw (el, er, line_itself n.left, line_itself n.right) refl

-- ---- places and X

pub x_order_above : (l m : Line) (y : ℤ) → place l y <ℤ place m y → x_on l y ≤ℤ x_on m y
x_order_above l m y h = let a = bottom_close l y in let b = bottom_close m y in omega (arith, ints, a.0, a.1, b.0, b.1, h)

close_below : (l : Line) (y : ℤ) → ((place l (y -ℤ pos 1) -ℤ pos 1) ≤ℤ (x_on l y +ℤ x_on l y)) × ((x_on l y +ℤ x_on l y) ≤ℤ (place l (y -ℤ pos 1) +ℤ pos 1))
close_below (Upright c) y = (omega (arith, ints), omega (arith, ints))
close_below (Rising c) y = (omega (arith, ints), omega (arith, ints))
close_below (Falling c) y = (omega (arith, ints), omega (arith, ints))

pub x_order_below : (l m : Line) (y : ℤ) → place l (y -ℤ pos 1) <ℤ place m (y -ℤ pos 1) → x_on l y ≤ℤ x_on m y
x_order_below l m y h = let a = close_below l y in let b = close_below m y in omega (arith, ints, a.0, a.1, b.0, b.1, h)

-- two lines that keep their order from the row below the stop to the row above it don't meet there
pub wide : (l r : Line) (y : ℤ) → place l (y -ℤ pos 1) <ℤ place r (y -ℤ pos 1) → place l y <ℤ place r y → x_on l y <ℤ x_on r y
wide (Upright c) (Upright d) y a b = omega (arith, ints, a, b)
wide (Upright c) (Rising d) y a b = omega (arith, ints, a, b)
wide (Upright c) (Falling d) y a b = omega (arith, ints, a, b)
wide (Rising c) (Upright d) y a b = omega (arith, ints, a, b)
wide (Rising c) (Rising d) y a b = omega (arith, ints, a, b)
wide (Rising c) (Falling d) y a b = omega (arith, ints, a, b)
wide (Falling c) (Upright d) y a b = omega (arith, ints, a, b)
wide (Falling c) (Rising d) y a b = omega (arith, ints, a, b)
wide (Falling c) (Falling d) y a b = omega (arith, ints, a, b)

-- the X of a run from this one on
run_from : (y : ℤ) (n m : Run) → place n.left y <ℤ place n.right y → IsRunFrom y n m → (m ≡ n) ⊎ (x_on n.right y ≤ℤ x_on m.left y)
run_from y n m wide_n h = elim h.1 [ inl e ↦ inl e | inr lt ↦ inr (x_order_above n.right m.left y lt) ]

module _ (y : ℤ) (o : Growing) (n : Run) (differ : goes_on o n ≡ false) (has : place n.left y <ℤ place n.right y)
    (had : place o.left (y -ℤ pos 1) <ℤ place o.right (y -ℤ pos 1)) where
  clash_by : (b : Bool) → b ≡ false → b ≡ true → ⊥
  clash_by b e f = let clash : ⊥ = cc in clash

  no_other : (m : Run) → m ≡ n → goes_on o m ≡ true → ⊥
  no_other m e h = clash_by (goes_on o n) differ (ap (λ (u : Run). goes_on o u) (sym e) ∙ h)

  no_former : (p : Growing) → p ≡ o → goes_on p n ≡ true → ⊥
  no_former p e h = clash_by (goes_on o n) differ (ap (λ (u : Growing). goes_on u n) (sym e) ∙ h)

  -- it ends where its left line is left of the run's
  pub ends_left : x_on o.left y <ℤ x_on n.left y → (m : Run) → IsRunFrom y n m → goes_on o m ≡ false
  ends_left lt m h = false_from_ne_true _ (λ g.
      (let e : x_on o.left y ≡ x_on m.left y = ap (λ (l : Line). x_on l y) (goes_on_left o m g) in
      let w = x_order_above n.left n.right y has in
      elim h.1 [ inl s ↦ no_other m s g | inr r ↦ (let v = x_order_above n.right m.left y r in omega (arith, ints, e, w, v, lt)) ]))

  -- the run begins one where its left line is left of the growing one's
  pub begins_left : x_on n.left y <ℤ x_on o.left y → (p : Growing) → IsGrowingFrom y o p → goes_on p n ≡ false
  begins_left lt p h = false_from_ne_true _ (λ g.
      (let e : x_on p.left y ≡ x_on n.left y = ap (λ (l : Line). x_on l y) (goes_on_left p n g) in
      let w = x_order_below o.left o.right y had in
      elim h.1 [ inl s ↦ no_former p s g | inr r ↦ (let v = x_order_below o.right p.left y r in omega (arith, ints, e, w, v, lt)) ]))

  -- what ends in a point goes on in no run
  pub ends_in_point : x_on o.right y ≡ x_on o.left y → (m : Run) → IsRunFrom y n m → goes_on o m ≡ false
  ends_in_point point m h = false_from_ne_true _ (λ g.
      (let el : place o.left y ≡ place m.left y = ap (λ (l : Line). place l y) (goes_on_left o m g) in
      let er : place o.right y ≡ place m.right y = ap (λ (l : Line). place l y) (goes_on_right o m g) in
      let a = h.0 in
      let w = wide o.left o.right y had (omega (arith, ints, el, er, a)) in
      omega (arith, ints, w, point)))

  -- at equal X, where the growing one doesn't end in a point, the run begins one
  pub begins_at : x_on n.left y ≡ x_on o.left y → (x_on o.right y ≡ x_on o.left y → ⊥) → (p : Growing) → IsGrowingFrom y o p → goes_on p n ≡ false
  begins_at same broad p h = false_from_ne_true _ (λ g.
      (let e : x_on p.left y ≡ x_on n.left y = ap (λ (l : Line). x_on l y) (goes_on_left p n g) in
      let w = x_order_below o.left o.right y had in
      elim h.1 [ inl s ↦ no_former p s g | inr r ↦ (let v = x_order_below o.right p.left y r in broad (omega (arith, ints, e, w, v, same))) ]))
