-- Each line of a row list has an edge on it that spans the row.
use Rattle.std.proofs.Common.{ℤ, pos, suc, ◌≡◌, ◌≢◌, ◌-ℤ◌, ◌<ℤ◌, Bool, true, false, ◌&&◌, not, List, [], ◌∷◌, All, slice_index_or, arith, refl, sym, ◌∙◌}
use Rattle.std.specs.List.{Contains}
use Rattle.std.specs.Ordering.{int_eq}
use Rattle.std.proofs.lemmas.Int.{ints, by_lt_z}
use Rattle.std.proofs.lemmas.List.Elements.{All-nil, All-cons, All-head, All-tail}
use Rattle.half_grid.specs.Edges.{EdgeParts, spans, is_of}
use Rattle.half_grid.specs.Rows.{place}
use Rattle.half_grid.specs.Winding.{count_one}
use Rattle.half_grid.specs.declared.border.Operand.{Operand}
use Rattle.half_grid.specs.declared.border.Operand.TheVariants.{A, B}
use Rattle.half_grid.proofs.ForCallers.{one_line, int_eq_same, int_eq_other, int_eq_true}
use Rattle.active_lines.specs.declared.item.ActiveLine.{ActiveLine}
use Rattle.active_lines.specs.declared.item.Windings.{Windings}
use Rattle.row_lists.specs.Weights.{stands_at, weight}
use Rattle.row_lists.specs.RowLists.{IsRowList, AscendIn, ChangeAtEach, no_windings, winding_of, change_at}
use Rattle.row_lists.proofs.ForCallers.{share, weight_nil, weight_cons, same_windings}

-- an edge spans the row, and stands there at this place
pub record StandsThere (edges : List EdgeParts) (j n : ℤ) : Type 0 where
  pub edge : EdgeParts
  pub has : Contains edges edge
  pub spanning : spans edge j ≡ true
  pub at : place edge.line j ≡ n

first_of : (e : EdgeParts) (edges : List EdgeParts) → Contains (e ∷ edges) e
first_of e edges = (0, omega arith, refl)

later_of : (e : EdgeParts) (edges : List EdgeParts) (f : EdgeParts) → Contains edges f → Contains (e ∷ edges) f
later_of e edges f h = (suc h.0, omega (arith, h.1), h.2)

both_true : (p q : Bool) → p && q ≡ true → (p ≡ true) × (q ≡ true)
both_true true q h = (refl, h)
both_true false q h = absurd (let clash : ⊥ = cc in clash)

no_share : (of up : Bool) → pos (count_one (of && (up && false))) -ℤ pos (count_one (of && (not up && false))) ≡ pos 0
no_share false up = refl
no_share true true = refl
no_share true false = refl

there_by : (b : Bool) (o : Operand) (e : EdgeParts) (edges : List EdgeParts) (j n : ℤ) → stands_at j n e ≡ b → (weight o (e ∷ edges) j n ≡ pos 0 → ⊥)
    → ((weight o edges j n ≡ pos 0 → ⊥) → StandsThere edges j n) → StandsThere (e ∷ edges) j n
there_by true o e edges j n h some later =
    let two = both_true (spans e j) (int_eq (place e.line j) n) h in
    record { edge = e; has = first_of e edges; spanning = two.0; at = int_eq_true _ _ two.1 }
there_by false o e edges j n h some later =
    let none : share o j n e ≡ pos 0 = rw h (no_share (is_of o e.operand) e.up) in
    let found = later (λ zero_there. some (weight_cons o e edges j n ∙ (rw (none, zero_there) refl))) in
    record { edge = found.edge; has = later_of e edges found.edge found.has; spanning = found.spanning; at = found.at }

pub weighted_edge : (o : Operand) (edges : List EdgeParts) (j n : ℤ) → (weight o edges j n ≡ pos 0 → ⊥) → StandsThere edges j n
weighted_edge o [] j n some = absurd (some (weight_nil o j n))
weighted_edge o (e ∷ edges) j n some = there_by _ o e edges j n refl some (λ h. weighted_edge o edges j n h)

-- ---- the lines of a row list

changes_by : (edges : List EdgeParts) (j n : ℤ) (l w : Windings) → l ≢ w
    → ((o : Operand) → winding_of o l -ℤ winding_of o w ≡ weight o edges j n) → StandsThere edges j n
changes_by edges j n l w differ h =
    by_lt_z l.a w.a
    (λ lt. weighted_edge A edges j n (λ e. (let k = h A ∙ e in absurd (omega (arith, ints, lt, k)))))
    (λ le. by_lt_z w.a l.a
    (λ lt. weighted_edge A edges j n (λ e. (let k = h A ∙ e in absurd (omega (arith, ints, lt, k)))))
    (λ ge. weighted_edge B edges j n (λ e. (let k = h B ∙ e in
    let a : l.a ≡ w.a = omega (arith, ints, le, ge) in
    let b : l.b ≡ w.b = omega (arith, ints, k) in
    differ (same_windings l w a b)))))

-- at each of the lines the list's change is the weight
abbrev Weighted : List EdgeParts → ℤ → Windings → List ActiveLine → ActiveLine → Type 0
Weighted edges j w lines m = (o : Operand) → change_at o j (place m.line j) w lines ≡ weight o edges j (place m.line j)

here_change : (o : Operand) (j : ℤ) (w : Windings) (l : ActiveLine) (lines : List ActiveLine)
    → change_at o j (place l.line j) w (l ∷ lines) ≡ winding_of o l.windings -ℤ winding_of o w
here_change o j w l lines = let same = int_eq_same (place l.line j) (place l.line j) refl in rw same refl

later_change : (o : Operand) (j n : ℤ) (w : Windings) (l : ActiveLine) (lines : List ActiveLine) → place l.line j <ℤ n
    → change_at o j n w (l ∷ lines) ≡ change_at o j n l.windings lines
later_change o j n w l lines lt = let other = int_eq_other (place l.line j) n (λ e. absurd (omega (arith, ints, lt, e))) in rw other refl

pub line_edges : (edges : List EdgeParts) (j : ℤ) (lines : List ActiveLine) (w : Windings) → AscendIn j lines
    → ChangeAtEach w lines → All (Weighted edges j w lines) lines
    → All (λ l. StandsThere edges j (place l.line j)) lines
line_edges edges j [] w ascend change h = All-nil (λ l. StandsThere edges j (place l.line j))
line_edges edges j (l ∷ lines) w ascend change h =
    let first = All-head (Weighted edges j w (l ∷ lines)) l lines h in
    let rest = All-tail (Weighted edges j w (l ∷ lines)) l lines h in
    All-cons (λ m. StandsThere edges j (place m.line j)) l lines
    (changes_by edges j (place l.line j) l.windings w change.0 (λ o. sym (here_change o j w l lines) ∙ first o))
    (line_edges edges j lines l.windings ascend.1 change.1
    (λ k d lt o. sym (later_change o j (place (slice_index_or lines k d).line j) w l lines (ascend.0 k d lt)) ∙ rest k d lt o))

-- an edge spans the row on each of its lines
pub row_list_edges : (edges : List EdgeParts) (j : ℤ) (lines : List ActiveLine) → IsRowList edges j lines
    → All (λ l. StandsThere edges j (place l.line j)) lines
row_list_edges edges j lines list =
    line_edges edges j lines no_windings list.ascend list.change (λ k d lt o. list.weights o (place (slice_index_or lines k d).line j))

pub on_line : (edges : List EdgeParts) (j : ℤ) (l : ActiveLine) (h : StandsThere edges j (place l.line j)) → h.edge.line ≡ l.line
on_line edges j l h = one_line h.edge.line l.line j h.at
