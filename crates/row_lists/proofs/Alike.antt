-- Changes along a list of lines from left to right.
use Rattle.std.proofs.Common.{ℤ, pos, ◌≡◌, ◌+ℤ◌, ◌-ℤ◌, ◌≤ℤ◌, ◌<ℤ◌, List, [], ◌∷◌, All, arith, refl, ap, sym, ◌∙◌}
use Rattle.std.proofs.lemmas.Int.{ints, by_lt_z}
use Rattle.std.proofs.lemmas.List.Elements.{All-cons, All-head, All-tail, All-weaker}
use Rattle.half_grid.specs.Rows.{place}
use Rattle.half_grid.specs.declared.border.Operand.{Operand}
use Rattle.half_grid.proofs.ForCallers.{le_yes, le_no, int_eq_same, int_eq_other}
use Rattle.active_lines.specs.declared.item.ActiveLine.{ActiveLine}
use Rattle.active_lines.specs.declared.item.Windings.{Windings}
use Rattle.row_lists.specs.RowLists.{winding_of, AscendIn, change_at, windings_at}

-- all of the lines stand right of this number
abbrev pub StandRight : ℤ → ℤ → List ActiveLine → Type 0
StandRight j n lines = All (λ m. n <ℤ place m.line j) lines

pub no_change : (o : Operand) (j n : ℤ) (w : Windings) (lines : List ActiveLine) → StandRight j n lines → change_at o j n w lines ≡ pos 0
no_change o j n w [] h = refl
no_change o j n w (l ∷ lines) h =
    let P : ActiveLine → Type 0 = λ m. n <ℤ place m.line j in
    let first = All-head P l lines h in
    let other = int_eq_other (place l.line j) n (λ e. absurd (omega (arith, ints, first, e))) in
    rw other (no_change o j n l.windings lines (All-tail P l lines h))

pub left_of_all : (j n : ℤ) (w : Windings) (lines : List ActiveLine) → StandRight j n lines → windings_at j n w lines ≡ w
left_of_all j n w [] h = refl
left_of_all j n w (l ∷ lines) h =
    let first = All-head (λ m. n <ℤ place m.line j) l lines h in
    let right = le_no (place l.line j) n first in
    rw right refl

further : (j n : ℤ) (l : ActiveLine) (lines : List ActiveLine) → n ≤ℤ place l.line j → All (λ m. place l.line j <ℤ place m.line j) lines
    → StandRight j n lines
further j n l lines h a = All-weaker (λ m. place l.line j <ℤ place m.line j) (λ m. n <ℤ place m.line j) (λ m lt. omega (arith, ints, h, lt)) lines a

step_at : (a w x b z : ℤ) → x ≡ a → b ≡ w → z ≡ a -ℤ w → x ≡ b +ℤ z
step_at a w x b z h k m = omega (arith, ints, h, k, m)

step_none : (x b z : ℤ) → x ≡ b → z ≡ pos 0 → x ≡ b +ℤ z
step_none x b z h k = omega (arith, ints, h, k)

-- from one tile to the next the windings change as the list says
pub change_step : (o : Operand) (j n : ℤ) (w : Windings) (lines : List ActiveLine) → AscendIn j lines
    → winding_of o (windings_at j n w lines) ≡ winding_of o (windings_at j (n -ℤ pos 1) w lines) +ℤ change_at o j n w lines
change_step o j n w [] h = omega (arith, ints)
change_step o j n w (l ∷ lines) h =
    by_lt_z n (place l.line j)
    (λ lt. (let all = All-cons (λ m. n <ℤ place m.line j) l lines lt (further j n l lines (omega (arith, ints, lt)) h.0) in
    let before = All-weaker (λ m. n <ℤ place m.line j) (λ m. (n -ℤ pos 1) <ℤ place m.line j) (λ m k. omega (arith, ints, k)) (l ∷ lines) all in
    step_none _ _ _ (ap (winding_of o) (left_of_all j n w (l ∷ lines) all ∙ sym (left_of_all j (n -ℤ pos 1) w (l ∷ lines) before)))
    (no_change o j n w (l ∷ lines) all)))
    (λ le. by_lt_z (place l.line j) n
    (λ lt. (let other = int_eq_other (place l.line j) n (λ e. absurd (omega (arith, ints, lt, e))) in
    let here = le_yes (place l.line j) n le in
    let left = le_yes (place l.line j) (n -ℤ pos 1) (omega (arith, ints, lt)) in
    rw (other, here, left) (change_step o j n l.windings lines h.1)))
    (λ ge. (let same = int_eq_same (place l.line j) n (omega (arith, ints, le, ge)) in
    let here = le_yes (place l.line j) n le in
    let left = le_no (place l.line j) (n -ℤ pos 1) (omega (arith, ints, ge)) in
    let rest = left_of_all j n l.windings lines (further j n l lines ge h.0) in
    rw (same, here, left) (step_at (winding_of o l.windings) (winding_of o w) _ _ _ (ap (winding_of o) rest) refl refl))))
