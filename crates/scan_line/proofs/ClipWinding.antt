-- The windings and the balance of the parts of edges in a window.
use Rattle.std.proofs.Common.{ℤ, ◌≡◌, ◌+◌, ◌≤ℤ◌, ◌<ℤ◌, Bool, true, false, ◌&&◌, not, cond, List, [], ◌∷◌, Some, None, count_by, arith, refl, ap, sym, ◌∙◌}
use Rattle.std.specs.Prelude.{int_le, int_lt}
use Rattle.std.specs.Int.{int_min, int_max}
use Rattle.std.specs.List.{cons_option}
use Rattle.std.proofs.lemmas.Int.{ints, clamps}
use Rattle.half_grid.specs.Edges.{EdgeParts, edge_parts, spans, is_of, winds_up, winds_down, edges_winding}
use Rattle.half_grid.specs.Lines.{strip_along, first_strip}
use Rattle.half_grid.specs.Windows.{RowRange}
use Rattle.half_grid.specs.Winding.{count_one}
use Rattle.half_grid.specs.declared.plane.Tile.{Tile}
use Rattle.half_grid.specs.declared.border.Operand.{Operand}
use Rattle.half_grid.proofs.ForCallers.{count_by-cons}
use Rattle.scan_line.specs.ClippedEdges.{parts_in}
use Rattle.scan_line.specs.Runs.{IsBalanced}

-- the edge over the rows of the window
abbrev clip : RowRange → EdgeParts → EdgeParts
clip window e = edge_parts (int_max e.y0 window.y0) (int_min e.y1 window.y1) e.line e.up e.operand

low_same : (y w j : ℤ) → w ≤ℤ j → int_le (int_max y w) j ≡ int_le y j
low_same y w j h = grind (arith, ints, clamps)

high_same : (y w j : ℤ) → j <ℤ w → int_lt j (int_min y w) ≡ int_lt j y
high_same y w j h = grind (arith, ints, clamps)

spans_same : (window : RowRange) (e : EdgeParts) (j : ℤ) → window.y0 ≤ℤ j → j <ℤ window.y1 → spans (clip window e) j ≡ spans e j
spans_same window e j a b = let low = low_same e.y0 window.y0 j a in let high = high_same e.y1 window.y1 j b in rw (low, high) refl

both_or : (p q : Bool) → (p ≡ true → q ≡ true → ⊥) → (p && q) ≡ false
both_or true true h = absurd (h refl refl)
both_or true false h = refl
both_or false q h = refl

apart_rows : (low high j : ℤ) → int_lt low high ≡ false → int_le low j ≡ true → int_lt j high ≡ true → ⊥
apart_rows low high j h p q = absurd (grind (arith, ints))

spans_nothing : (window : RowRange) (e : EdgeParts) (j : ℤ) → window.y0 ≤ℤ j → j <ℤ window.y1
    → int_lt (int_max e.y0 window.y0) (int_min e.y1 window.y1) ≡ false → spans e j ≡ false
spans_nothing window e j a b h = sym (spans_same window e j a b) ∙ both_or _ _ (apart_rows (int_max e.y0 window.y0) (int_min e.y1 window.y1) j h)

module _ (window : RowRange) (j : ℤ) (low : window.y0 ≤ℤ j) (high : j <ℤ window.y1) (p : EdgeParts → Bool)
    (same : (e : EdgeParts) → p (clip window e) ≡ p e) (none : (e : EdgeParts) → spans e j ≡ false → p e ≡ false) where
  one : (e : EdgeParts) (edges : List EdgeParts) (b : Bool) → int_lt (int_max e.y0 window.y0) (int_min e.y1 window.y1) ≡ b
      → count_by p (cons_option (cond b (Some (clip window e)) None) edges) ≡ count_one (p e) + count_by p edges
  one e edges true h = let is = same e in count_by-cons p (clip window e) edges ∙ (rw is refl)
  one e edges false h = let is = none e (spans_nothing window e j low high h) in rw is (omega arith)

  count_clipped : (edges : List EdgeParts) → count_by p (parts_in window edges) ≡ count_by p edges
  count_clipped [] = refl
  count_clipped (e ∷ edges) =
      let later = count_clipped edges in
      let first = one e (parts_in window edges) _ refl in
      let all = count_by-cons p e edges in
      omega (arith, later, first, all)

no_row : (p q r : Bool) → (p && (q && (false && r))) ≡ false
no_row true true r = refl
no_row true false r = refl
no_row false q r = refl

no_span : (p q : Bool) → (p && (q && false)) ≡ false
no_span true true = refl
no_span true false = refl
no_span false q = refl

abbrev goes : Operand → ℤ → EdgeParts → Bool
goes o j e = is_of o e.operand && (e.up && spans e j)

abbrev returns : Operand → ℤ → EdgeParts → Bool
returns o j e = is_of o e.operand && (not e.up && spans e j)

pub winds_in_window : (o : Operand) (window : RowRange) (edges : List EdgeParts) (t : Tile) → window.y0 ≤ℤ t.j
    → t.j <ℤ window.y1 → edges_winding o (parts_in window edges) t ≡ edges_winding o edges t
unfolding edges_winding
winds_in_window o window edges t a b =
    let up = count_clipped window t.j a b (winds_up o t)
    (λ e. ap (λ (s : Bool). is_of o e.operand && (e.up && (s && int_le (first_strip e.line) (strip_along e.line t)))) (spans_same window e t.j a b))
    (λ e h. (rw h (no_row (is_of o e.operand) e.up (int_le (first_strip e.line) (strip_along e.line t))))) edges in
    let down = count_clipped window t.j a b (winds_down o t)
    (λ e. ap (λ (s : Bool). is_of o e.operand && (not e.up && (s && int_le (first_strip e.line) (strip_along e.line t)))) (spans_same window e t.j a b))
    (λ e h. (rw h (no_row (is_of o e.operand) (not e.up) (int_le (first_strip e.line) (strip_along e.line t))))) edges in
    rw (up, down) refl

pub stays_balanced : (window : RowRange) (edges : List EdgeParts) → IsBalanced edges window → IsBalanced (parts_in window edges) window
stays_balanced window edges h = λ o j a b.
    (let up = count_clipped window j a b (goes o j)
    (λ e. ap (λ (s : Bool). is_of o e.operand && (e.up && s)) (spans_same window e j a b))
    (λ e k. (rw k (no_span (is_of o e.operand) e.up))) edges in
    let down = count_clipped window j a b (returns o j)
    (λ e. ap (λ (s : Bool). is_of o e.operand && (not e.up && s)) (spans_same window e j a b))
    (λ e k. (rw k (no_span (is_of o e.operand) (not e.up)))) edges in
    up ∙ (h o j a b ∙ sym down))
