-- Layouts of cells with different names, and lists of equal moves.
use Rattle.std.proofs.Common.{◌≡◌, ◌≢◌, ℕ, ℤ, pos, ◌<◌, ◌≤◌, ◌*◌, ◌/◌, ◌%◌, ◌*ℤ◌, ◌+ℤ◌, nat_eq, true, false, List, []}
use Rattle.std.proofs.Common.{◌∷◌, ◌++◌, All, None, map, length, get_or, position, refl, sym, ap, subst, ◌∙◌, arith}
use Rattle.std.specs.List.{position_or_len, range_with_len}
use Rattle.std.specs.Cmp.Lexicographic.{pointwise, bytes_decides}
use Rattle.std.proofs.Math.IntN.{pos-*ℤ-pos}
use Rattle.std.proofs.lemmas.Grind.{common_steps}
use Rattle.std.proofs.lemmas.Int.{ints}
use Rattle.std.proofs.lemmas.List.Sums.{fails_before_first}
use Rattle.std.proofs.lemmas.List.FromFn.{length-map-range_with_len}
use Rattle.std.proofs.lemmas.List.Elements.{All-cons, All-nil, All-push, All-head, All-tail, All-map}
use Rattle.half_grid.specs.declared.plane.Point.{Point}
use Rattle.layout_model.specs.Grids.{grid_place, grid_places, nth_place}
use Rattle.cell_tree.specs.Cells.{cell_names, cell_number}
use Rattle.layout_model.specs.Layouts.{IsMove, AreOffsets, AreDistinct, IsCellOnGrid, IsLayoutOnGrid}
use Rattle.layout_model.specs.declared.cells.Cell.{Cell}
use Rattle.layout_model.specs.declared.cells.Counts.{Counts}
use Rattle.layout_model.specs.declared.cells.Layout.{Layout}

clash : (x y : ℕ) → x < y → (x ∷ []) ≡ (y ∷ []) → ⊥
clash x y less h = let n : x ≡ y = ap (λ l. get_or l 0 0) h in omega arith

pub three_cells : {a b c : Cell} {cells : List Cell} {counts : Counts} → cells ≡ a ∷ b ∷ c ∷ [] → IsCellOnGrid a → IsCellOnGrid b → IsCellOnGrid c
    → a.name ≡ 65 ∷ [] → b.name ≡ 66 ∷ [] → c.name ≡ 67 ∷ [] → IsLayoutOnGrid (record { cells = cells; counts = counts })
three_cells {a} {b} {c} {cells} {counts} e ga gb gc na nb nc =
    let ab : a.name ≢ b.name = λ h. clash 65 66 (omega arith) (sym na ∙ h ∙ nb) in
    let ac : a.name ≢ c.name = λ h. clash 65 67 (omega arith) (sym na ∙ h ∙ nc) in
    let bc : b.name ≢ c.name = λ h. clash 66 67 (omega arith) (sym nb ∙ h ∙ nc) in
    let grid : All IsCellOnGrid (a ∷ b ∷ c ∷ []) = All-cons IsCellOnGrid a (b ∷ c ∷ []) ga
    (All-cons IsCellOnGrid b (c ∷ []) gb (All-cons IsCellOnGrid c [] gc (All-nil IsCellOnGrid))) in
    let names : AreDistinct (a.name ∷ b.name ∷ c.name ∷ []) = (
      All-cons (λ other. a.name ≢ other) b.name (c.name ∷ []) ab (All-cons (λ other. a.name ≢ other) c.name [] ac (All-nil (λ other. a.name ≢ other))),
      (All-cons (λ other. b.name ≢ other) c.name [] bc (All-nil (λ other. b.name ≢ other)), (All-nil (λ other. c.name ≢ other), tt)),
    ) in
    record {
      cells = subst (All IsCellOnGrid) (sym e) grid;
      names = subst (λ (cs : List Cell). AreDistinct (map (λ (x : Cell). x.name) cs)) (sym e) names;
    }

-- ---- one more cell

all_differ : (name : List ℕ) (names : List (List ℕ)) → position (pointwise nat_eq name) names ≡ None → All (λ other. other ≢ name) names
all_differ name names none = λ k d inside same.
    let past : length names ≤ position_or_len (pointwise nat_eq name) names = grind (arith, common_steps) in
    let fails : pointwise nat_eq name (get_or names k d) ≡ false = fails_before_first (pointwise nat_eq name) names k d (omega arith) in
    let equal : pointwise nat_eq name (get_or names k d) ≡ true = (bytes_decides name (get_or names k d)).1 (sym same) in
    absurd (cc)

distinct_push : (names : List (List ℕ)) (name : List ℕ) → AreDistinct names → All (λ other. other ≢ name) names → AreDistinct (names ++ (name ∷ []))
distinct_push [] name distinct new = (All-nil (λ other. name ≢ other), tt)
distinct_push (x ∷ names) name distinct new = (
  All-push (λ other. x ≢ other) names name distinct.0
      (All-head (λ z. z ≢ name) x names new),
  distinct_push names name distinct.1
      (All-tail (λ z. z ≢ name) x names new),
)

names_push : (cells : List Cell) (cell : Cell) → cell_names (cells ++ cell ∷ []) ≡ cell_names cells ++ cell.name ∷ []
names_push [] cell = refl
names_push (x ∷ cells) cell = ap (λ names. x.name ∷ names) (names_push cells cell)

pub one_more_cell : (layout : Layout) (cell : Cell) (cells : List Cell) (counts : Counts) → IsLayoutOnGrid layout
    → IsCellOnGrid cell → cell_number layout.cells cell.name ≡ None
    → cells ≡ layout.cells ++ cell ∷ [] → IsLayoutOnGrid (record { cells = cells; counts = counts })
unfolding cell_number
one_more_cell layout cell cells counts grid cell_grid new e = record {
  cells = subst (All IsCellOnGrid) (sym e) (All-push IsCellOnGrid layout.cells cell grid.cells cell_grid);
  names = subst AreDistinct (sym (ap cell_names e ∙ names_push layout.cells cell))
      (distinct_push (cell_names layout.cells) cell.name grid.names (all_differ cell.name (cell_names layout.cells) new));
}

-- ---- equal moves

zero_times : (a : ℕ) → (pos a *ℤ pos 0) ≡ pos 0
zero_times a = pos-*ℤ-pos a 0 ∙ ap pos (omega arith)

abbrev origin : Point
origin = record { x = pos 0; y = pos 0 }

zero_sum : (a b : ℕ) → ((pos a *ℤ pos 0) +ℤ (pos b *ℤ pos 0)) ≡ pos 0
zero_sum a b = ap (λ (x : ℤ). x +ℤ (pos b *ℤ pos 0)) (zero_times a) ∙ ap (λ (y : ℤ). pos 0 +ℤ y) (zero_times b)

abbrev point_of : ℤ → Point
point_of z = record { x = z; y = z }

zero_place : (a b : ℕ) → grid_place origin origin a b ≡ origin
zero_place a b = ap (λ (z : ℤ). point_of z) (zero_sum a b)

origin_move : IsMove origin
origin_move = record {
  even_x = refl;
  even_y = refl;
  near =
      record {
        x_low = omega (arith, ints);
        x_high = omega (arith, ints);
        y_low = omega (arith, ints);
        y_high = omega
            (arith, ints);
      };
}

pub equal_offsets : (count : ℕ) (offsets : List Point) → 1 ≤ count → offsets ≡ grid_places count 1 origin origin → AreOffsets offsets
equal_offsets count offsets some e = subst AreOffsets (sym e) (record {
  nonempty = λ h. absurd (
      let none : count * 1 ≡ 0 = sym (length-map-range_with_len (nth_place count origin origin) 0 (count * 1)) ∙ ap length h in omega arith);
  moves = All-map IsMove (nth_place count origin origin) (range_with_len 0 (count * 1)) (λ k d lt.
      subst IsMove (sym (zero_place (get_or (range_with_len 0 (count * 1)) k d % count) (get_or (range_with_len 0 (count * 1)) k d / count))) origin_move);
})
