-- The parts of edges in a window.
use Rattle.std.proofs.Common.{ℤ, ◌≡◌, ◌≤ℤ◌, ◌<ℤ◌, true, false, List, [], Option, Some, None, refl, sym, ap, subst, ◌∙◌, arith}
use Rattle.std.specs.Prelude.{int_lt}
use Rattle.std.specs.Int.{int_min, int_max}
use Rattle.std.specs.List.{cons_option}
use Rattle.std.proofs.lemmas.Int.{ints, clamps}
use Rattle.half_grid.specs.Edges.{EdgeParts, IsEdge, edge_parts}
use Rattle.half_grid.specs.Windows.{RowRange}
use Rattle.geo_stream.specs.Stream.{TakesFirst}
use Rattle.scan_line.specs.ClippedEdges.{part_in, parts_in}
use Rattle.scan_line.specs.ClippedStreams.{StandsForClipped}
use Rattle.scan_line.specs.declared.runs.Slab.{Slab}
use Rattle.scan_line.proofs.Reaches.{x_within, y_within}

lt_yes : (x y : ℤ) → x <ℤ y → int_lt x y ≡ true
lt_yes x y h = grind (arith, ints)

lt_no : (x y : ℤ) → y ≤ℤ x → int_lt x y ≡ false
lt_no x y h = grind (arith, ints)

pub part_is_edge : (window : RowRange) (e : EdgeParts) (rows : Slab) → IsEdge e → rows.y0 ≡ int_max e.y0 window.y0
    → rows.y1 ≡ int_min e.y1 window.y1 → rows.y0 <ℤ rows.y1 → IsEdge (edge_parts rows.y0 rows.y1 e.line e.up e.operand)
part_is_edge window e rows is bottom top lt =
    let low : e.y0 ≤ℤ rows.y0 = omega (arith, ints, clamps, bottom) in
    let high : rows.y1 ≤ℤ e.y1 = omega (arith, ints, clamps, top) in
    let low_end : rows.y0 ≤ℤ e.y1 = omega (arith, ints, lt, high) in
    let high_end : e.y0 ≤ℤ rows.y1 = omega (arith, ints, lt, low) in
    record {
      has_rows = lt;
      y0 = y_within e rows.y0 is low low_end;
      y1 = y_within e rows.y1 is high_end high;
      lower_end = x_within e rows.y0 is low low_end;
      upper_end = x_within e rows.y1 is high_end high;
    }

pub part_some : (window : RowRange) (e : EdgeParts) (rows : Slab) → rows.y0 ≡ int_max e.y0 window.y0 → rows.y1 ≡ int_min e.y1 window.y1
    → rows.y0 <ℤ rows.y1 → Some (edge_parts rows.y0 rows.y1 e.line e.up e.operand) ≡ part_in window e
part_some window e rows bottom top lt =
    let test : int_lt (int_max e.y0 window.y0) (int_min e.y1 window.y1) ≡ true = subst
    (λ (x : ℤ). int_lt x (int_min e.y1 window.y1) ≡ true) bottom
    (subst (λ (y : ℤ). int_lt rows.y0 y ≡ true) top (lt_yes rows.y0 rows.y1 lt)) in
    rw test (rw (bottom, top) refl)

-- ---- the stream

module _ {S : Type 0} (stands_for : S → List EdgeParts → Type 0) (window : RowRange) where
  -- the part of one comes first
  pub clipped_takes : (before after : S) (e part : EdgeParts)
      → ((items : List EdgeParts) → stands_for before items → TakesFirst stands_for items (Some e) after)
      → Some part ≡ part_in window e
      → (items : List EdgeParts) → StandsForClipped stands_for window before items → TakesFirst (StandsForClipped stands_for window) items (Some part) after
  clipped_takes before after e part first some items p =
      let taken = first p.edges p.source in (
        parts_in window taken.0,
        p.each
            ∙ (ap (λ (l : List EdgeParts). parts_in window l) taken.1 ∙ ap
            (λ (o : Option EdgeParts). cons_option o (parts_in window taken.0)) (sym some)),
        record {
          edges =
              taken.0;
          source = taken.2;
          each = refl;
        },
      )

  pub clipped_ends : (before after : S) → ((items : List EdgeParts) → stands_for before items → TakesFirst stands_for items None after)
      → (items : List EdgeParts) → StandsForClipped stands_for window before items → TakesFirst (StandsForClipped stands_for window) items None after
  clipped_ends before after first items p =
      let taken = first p.edges p.source in
      (p.each ∙ ap (λ (l : List EdgeParts). parts_in window l) taken.0, record { edges = []; source = taken.1; each = refl })
