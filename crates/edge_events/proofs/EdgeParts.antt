-- The part of an edge in a window.
use Rattle.std.proofs.Common.{ℕ, suc, ◌≤◌, Bool, false, cond, length, All, ℤ, ◌≡◌, ◌≤ℤ◌, ◌<ℤ◌, true, List}
use Rattle.std.proofs.Common.{[], ◌∷◌, ◌++◌, Option, Some, None, append_assoc, append-nil, refl, sym, ap, subst, ◌∙◌, arith}
use Rattle.std.specs.Prelude.{int_lt}
use Rattle.std.specs.Int.{int_min, int_max}
use Rattle.std.specs.List.{cons_option}
use Rattle.std.specs.Option.{option_to_list}
use Rattle.std.proofs.lemmas.Int.{ints, clamps}
use Rattle.std.proofs.lemmas.List.Elements.{All-nil, All-cons, All-head, All-tail}
use Rattle.row_lists.specs.declared.event.Event.{Event}
use Rattle.row_lists.specs.Events.{begin_of, end_of, events_of}
use Rattle.half_grid.specs.Edges.{EdgeParts, IsEdge, edge_parts}
use Rattle.half_grid.specs.Windows.{RowRange}
use Rattle.scan_line.specs.ClippedEdges.{part_in, parts_in}
use Rattle.scan_line.specs.declared.runs.Slab.{Slab}
use Rattle.scan_line.proofs.ForCallers.{x_within, y_within}

lt_yes : (x y : ℤ) → x <ℤ y → int_lt x y ≡ true
lt_yes x y h = grind (arith, ints)

pub part_is_edge : (window : RowRange) (e : EdgeParts) (rows : Slab) → IsEdge e → rows.y0 ≡ int_max e.y0 window.y0
    → rows.y1 ≡ int_min e.y1 window.y1 → rows.y0 <ℤ rows.y1 → IsEdge (edge_parts rows.y0 rows.y1 e.line e.up e.operand)
part_is_edge window e rows is bottom top lt =
    let low : e.y0 ≤ℤ rows.y0 = omega (arith, ints, clamps, bottom) in
    let high : rows.y1 ≤ℤ e.y1 = omega (arith, ints, clamps, top) in
    let low_end : rows.y0 ≤ℤ e.y1 = omega (arith, ints, lt, high) in
    let high_end : e.y0 ≤ℤ rows.y1 = omega (arith, ints, lt, low) in
    record {
      has_rows = lt;
      y0 = y_within e rows.y0 is low low_end;
      y1 = y_within e rows.y1 is high_end high;
      lower_end = x_within e rows.y0 is low low_end;
      upper_end = x_within e rows.y1 is high_end high;
    }

pub part_some : (window : RowRange) (e : EdgeParts) (rows : Slab) → rows.y0 ≡ int_max e.y0 window.y0 → rows.y1 ≡ int_min e.y1 window.y1
    → rows.y0 <ℤ rows.y1 → Some (edge_parts rows.y0 rows.y1 e.line e.up e.operand) ≡ part_in window e
part_some window e rows bottom top lt =
    let test : int_lt (int_max e.y0 window.y0) (int_min e.y1 window.y1) ≡ true = subst
    (λ (x : ℤ). int_lt x (int_min e.y1 window.y1) ≡ true) bottom
    (subst (λ (y : ℤ). int_lt rows.y0 y ≡ true) top (lt_yes rows.y0 rows.y1 lt)) in
    rw test (rw (bottom, top) refl)

-- ---- the parts of edges are edges, and no more than those

lt_is : (x y : ℤ) → int_lt x y ≡ true → x <ℤ y
lt_is x y h = grind (arith, ints)

abbrev clip : RowRange → EdgeParts → EdgeParts
clip window e = edge_parts (int_max e.y0 window.y0) (int_min e.y1 window.y1) e.line e.up e.operand

abbrev rows_of : RowRange → EdgeParts → Slab
rows_of window e = record { y0 = int_max e.y0 window.y0; y1 = int_min e.y1 window.y1 }

known_by : (window : RowRange) (e : EdgeParts) (rest : List EdgeParts) (b : Bool) → int_lt (int_max e.y0 window.y0) (int_min e.y1 window.y1) ≡ b → IsEdge e
    → All IsEdge rest → All IsEdge (cons_option (cond b (Some (clip window e)) None) rest)
known_by window e rest true t is h = All-cons IsEdge (clip window e) rest (part_is_edge window e (rows_of window e) is refl refl (lt_is _ _ t)) h
known_by window e rest false t is h = h

pub parts_known : (window : RowRange) (edges : List EdgeParts) → All IsEdge edges → All IsEdge (parts_in window edges)
parts_known window [] h = All-nil IsEdge
parts_known window (e ∷ edges) h =
    known_by window e (parts_in window edges) _ refl (All-head IsEdge e edges h) (parts_known window edges (All-tail IsEdge e edges h))

short_by : (e : EdgeParts) (rest : List EdgeParts) (n : ℕ) (b : Bool) → length rest ≤ n → length (cons_option (cond b (Some e) None) rest) ≤ suc n
short_by e rest n true h = omega (arith, h)
short_by e rest n false h = omega (arith, h)

pub parts_short : (window : RowRange) (edges : List EdgeParts) → length (parts_in window edges) ≤ length edges
parts_short window [] = omega arith
parts_short window (e ∷ edges) = short_by (clip window e) (parts_in window edges) (length edges) _ (parts_short window edges)

-- ---- events, edge by edge

put_events : (events : List Event) (rest : List EdgeParts) (o : Option EdgeParts)
    → (events ++ events_of (option_to_list o)) ++ events_of rest ≡ events ++ events_of (cons_option o rest)
put_events events rest None = ap (λ (es : List Event). es ++ events_of rest) (append-nil events)
put_events events rest (Some e) = append_assoc events (begin_of e ∷ end_of e ∷ []) (events_of rest)

pub events_further : (window : RowRange) (events more : List Event) (left rest edges : List EdgeParts) (e : EdgeParts) → left ≡ e ∷ rest
    → events ++ events_of (parts_in window left) ≡ events_of (parts_in window edges) → more ≡ events ++ events_of (option_to_list (part_in window e))
    → more ++ events_of (parts_in window rest) ≡ events_of (parts_in window edges)
events_further window events more left rest edges e first before put =
    ap (λ (es : List Event). es ++ events_of (parts_in window rest)) put
    ∙ (put_events events (parts_in window rest) (part_in window e)
    ∙ (ap (λ (es : List EdgeParts). events ++ events_of (parts_in window es)) (sym first) ∙ before))
