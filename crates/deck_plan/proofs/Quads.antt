-- The area of a layer, and of a set operation on two layers, by the windings of their pieces.
use Rattle.std.proofs.Common.{not, ◌≡◌, ℕ, ℤ, pos, ◌+ℤ◌, ◌≤ℤ◌, ◌⊎◌, inl, inr, List, [], ◌∷◌, ◌++◌, flat_map, All, ap, refl}
use Rattle.std.proofs.Common.{sym, subst, ◌∙◌, arith, append_assoc, append-nil}
use Rattle.std.proofs.lemmas.Int.{ints}
use Rattle.std.proofs.lemmas.List.Elements.{All-head, All-tail}
use Rattle.std.specs.Ordering.{int_eq}
use Rattle.half_grid.specs.Edges.{EdgeParts, edges_winding}
use Rattle.half_grid.specs.Outlines.{HasGridEdges}
use Rattle.half_grid.specs.Quads.{Corners, ring_of, IsQuad}
use Rattle.half_grid.specs.Trapezoids.{Trapezoid}
use Rattle.half_grid.specs.Windows.{RowRange}
use Rattle.half_grid.specs.Winding.{winding, IsInPolygon}
use Rattle.half_grid.specs.declared.border.Operand.{Operand}
use Rattle.half_grid.specs.declared.border.Operand.TheVariants.{A, B}
use Rattle.half_grid.specs.declared.plane.Tile.{Tile}
use Rattle.half_grid.specs.Edges.{is_of}
use Rattle.half_grid.proofs.ForCallers.{windings_add, int_eq_true, int_eq_same}
use Rattle.scan_line.specs.Runs.{IsBalanced, IsBalancedAt}
use Rattle.scan_line.proofs.ForCallers.{winding_nil, winds_as_outline, winds_not_for_other, outline_is_balanced}
use Rattle.column_sweep.specs.RowSums.{AddUpAlike}
use Rattle.column_sweep.proofs.ForCallers.{alike_refl, alike_trans, alike_append, winding_alike, balanced_alike}
use Rattle.layout_model.specs.declared.pair.Pair.{Pair}
use Rattle.layout_model.specs.declared.cells.Cell.{Cell}
use Rattle.cell_tree.specs.Flattening.{IsInLayer}
use Rattle.cell_tree.proofs.ForCallers.{Has, has_any, any_has}
use Rattle.flat_walk.specs.Walks.{CoversLayer}
use Rattle.bool_ops.specs.Operations.{IsInRows, IsJoinedOf, IsWoundBy, IsWoundIn, is_wound, takes}
use Rattle.deck_plan.specs.declared.own_layers.Layers.{Layers}
use Rattle.deck_plan.specs.LayerSets.{OfLayers}
use Rattle.deck_plan.specs.Lists.{HasArea}
use Rattle.deck_plan.specs.Rings.{edges_of_quad}
use Rattle.deck_plan.proofs.AreaLists.{Decided, Tells, joined_has, of_taken, taken_of, tells_by, tested}
use Rattle.deck_plan.proofs.Sizes.{both_balanced, wound_decided, zero_decided}

abbrev pub winds : Operand → List Corners → Tile → ℤ
winds o quads t = edges_winding o (flat_map (edges_of_quad o) quads) t

abbrev pub In : Tile → Corners → Type 0
In t q = IsInPolygon (ring_of q) t

-- some quadrilateral has the tile, and then the edges wind round it, or none has it
abbrev pub Winds : Operand → List Corners → Tile → Type 0
Winds o quads t = (Has (In t) quads × (pos 1 ≤ℤ winds o quads t)) ⊎ ((Has (In t) quads → ⊥) × (winds o quads t ≡ pos 0))

one_more : (o : Operand) (q : Corners) (quads : List Corners) (t : Tile) → winds o (q ∷ quads) t ≡ winding (ring_of q) t +ℤ winds o quads t
one_more o q quads t = windings_add o (edges_of_quad o q) (flat_map (edges_of_quad o) quads) t
    ∙ ap (λ w. w +ℤ winds o quads t) (winds_as_outline o (ring_of q) t)

pub quads_wind : (o : Operand) (quads : List Corners) (t : Tile) → All IsQuad quads → Winds o quads t
quads_wind o [] t all = inr (λ h. h, winding_nil o t)
quads_wind o (q ∷ quads) t all =
    let first = All-head IsQuad q quads all in
    let sum = one_more o q quads t in
    let later = quads_wind o quads t (All-tail IsQuad q quads all) in
    elim (zero_decided (winding (ring_of q) t)) [
      | inl zero ↦ elim later [
        | inl l ↦ (let w = l.1 in inl (inr l.0, omega (arith, ints, zero, w, sum)))
        | inr l ↦ (let w = l.1 in inr (λ h. elim h [ inl i ↦ i zero | inr i ↦ l.0 i ], omega (arith, ints, zero, w, sum)))
      ]
      | inr wound ↦ (let one = first.once t wound in elim later [
        | inl l ↦ (let w = l.1 in inl (inl wound, omega (arith, ints, one, w, sum)))
        | inr l ↦ (let w = l.1 in inl (inl wound, omega (arith, ints, one, w, sum)))
      ])
    ]

-- edges of one operand don't wind for the other
others_wind : (o p : Operand) (quads : List Corners) (t : Tile) → (o ≡ p → ⊥) → edges_winding o (flat_map (edges_of_quad p) quads) t ≡ pos 0
others_wind o p [] t apart = winding_nil o t
others_wind o p (q ∷ quads) t apart =
    let first = winds_not_for_other o p (ring_of q) t apart in
    let later = others_wind o p quads t apart in
    windings_add o (edges_of_quad p q) (flat_map (edges_of_quad p) quads) t ∙ (rw (first, later) refl)

-- each edge that goes up has one that goes down
balanced_at : (p : Operand) (quads : List Corners) (o : Operand) (j : ℤ) → All (λ q. HasGridEdges (ring_of q)) quads
    → IsBalancedAt (flat_map (edges_of_quad p) quads) o j
balanced_at p [] o j all = refl
balanced_at p (q ∷ quads) o j all =
    both_balanced (edges_of_quad p q) (flat_map (edges_of_quad p) quads) o j
    (outline_is_balanced o p (ring_of q) j refl (All-head (λ q. HasGridEdges (ring_of q)) q quads all))
    (balanced_at p quads o j (All-tail (λ q. HasGridEdges (ring_of q)) q quads all))

-- the edges of some quadrilaterals, put into an empty list
abbrev pub ArePut : Operand → List Corners → List EdgeParts → Type 0
ArePut o quads edges = AddUpAlike edges (flat_map (edges_of_quad o) quads)

pub put_first : (o : Operand) (quads : List Corners) (old edges : List EdgeParts) → old ≡ []
    → AddUpAlike edges (old ++ flat_map (edges_of_quad o) quads) → ArePut o quads edges
put_first o quads old edges none alike = subst (λ (xs : List EdgeParts). AddUpAlike edges (xs ++ flat_map (edges_of_quad o) quads)) none alike

pub quads_balanced : (quads : List Corners) (edges : List EdgeParts) (window : RowRange)
    → All (λ q. HasGridEdges (ring_of q)) quads → ArePut A quads edges → IsBalanced edges window
quads_balanced quads edges window all alike = λ o j low high. balanced_alike o j edges (flat_map (edges_of_quad A) quads) alike (balanced_at A quads o j all)

-- whether a tile is in the layer, by the winding of the edges of its pieces
module _ (cells : List Cell) (top : ℕ) (window : RowRange) (o : Operand) (pair : Pair) (quads : List Corners)
    (all : All IsQuad quads) (covers : CoversLayer cells top pair window quads) (t : Tile) (rows : IsInRows window t)
    (w : ℤ) (is : w ≡ winds o quads t) where
  layer_wound : (w ≡ pos 0 → ⊥) → IsInLayer cells top pair t
  layer_wound wound = (covers t rows.from rows.below).0
      (elim (quads_wind o quads t all) [ inl h ↦ has_any (In t) quads h.0 | inr h ↦ absurd (wound (is ∙ h.1)) ])

  layer_not_wound : w ≡ pos 0 → IsInLayer cells top pair t → ⊥
  layer_not_wound zero a = elim (quads_wind o quads t all) [
    | inl h ↦ (let more = h.1 in omega (arith, ints, more, is, zero))
    | inr h ↦ h.0 (any_has (In t) quads ((covers t rows.from rows.below).1 a))
  ]

  tells_layer : Tells (not (int_eq w (pos 0))) (IsInLayer cells top pair t)
  tells_layer = tells_by (IsInLayer cells top pair t) (not (int_eq w (pos 0)))
      (λ h. layer_wound (λ e. (let same = int_eq_same w (pos 0) e in grind (arith, h, same))))
      (λ h. layer_not_wound (int_eq_true w (pos 0) (grind (arith, h))))

pub layer_has : (cells : List Cell) (top : ℕ) (pair : Pair) (window : RowRange) (quads : List Corners)
    → All IsQuad quads → CoversLayer cells top pair window quads
    → (edges : List EdgeParts) → ArePut A quads edges → (traps : List Trapezoid)
    → IsJoinedOf window (IsWoundIn edges window) traps → HasArea window (IsInLayer cells top pair) traps
layer_has cells top pair window quads all covers edges alike traps joined =
    let same : (t : Tile) → edges_winding A edges t ≡ winds A quads t = λ t. winding_alike A t edges (flat_map (edges_of_quad A) quads) alike in
    joined_has window (IsWoundIn edges window) (IsInLayer cells top pair) traps joined (wound_decided edges window)
    (λ t h. (h.rows, layer_wound cells top window A pair quads all covers t h.rows (edges_winding A edges t) (same t) h.wound))
    (λ t rows a. record {
      rows = rows;
      wound = λ e. layer_not_wound cells top window A pair quads all covers t rows (edges_winding A edges t) (same t) e a;
    })

-- ---- two layers

different : A ≡ B → ⊥
different e = grind (arith, ap (is_of A) e)

-- the edges of the pieces of one layer as operand A, and those of another as operand B
module _ (cells : List Cell) (top : ℕ) (window : RowRange) (layers : Layers) (first second : List Corners) (one edges : List EdgeParts)
    (put : ArePut A first one) (both : AddUpAlike edges (one ++ flat_map (edges_of_quad B) second)) where
  abbrev of_first : List EdgeParts
  of_first = flat_map (edges_of_quad A) first

  abbrev of_second : List EdgeParts
  of_second = flat_map (edges_of_quad B) second

  alike : AddUpAlike edges (of_first ++ of_second)
  alike = alike_trans edges (one ++ of_second) (of_first ++ of_second) both (alike_append one of_first of_second of_second put (alike_refl of_second))

  pub layers_balanced : All (λ q. HasGridEdges (ring_of q)) first → All (λ q. HasGridEdges (ring_of q)) second → IsBalanced edges window
  layers_balanced on_grid too = λ o j low high. balanced_alike o j edges (of_first ++ of_second) alike
      (both_balanced of_first of_second o j (balanced_at A first o j on_grid) (balanced_at B second o j too))

  first_winds : (t : Tile) → edges_winding A edges t ≡ winds A first t
  first_winds t =
      let none = others_wind A B second t different in
      let sum = winding_alike A t edges (of_first ++ of_second) alike ∙ windings_add A of_first of_second t in
      omega (arith, ints, sum, none)

  second_winds : (t : Tile) → edges_winding B edges t ≡ winds B second t
  second_winds t =
      let none = others_wind B A first t (λ e. different (sym e)) in
      let sum = winding_alike B t edges (of_first ++ of_second) alike ∙ windings_add B of_first of_second t in
      omega (arith, ints, sum, none)

  module _ (all : All IsQuad first) (too : All IsQuad second) (covers : CoversLayer cells top layers.a window first)
      (covers_too : CoversLayer cells top layers.b window second) where
    abbrev InFirst : Tile → Type 0
    InFirst t = IsInLayer cells top layers.a t

    abbrev InSecond : Tile → Type 0
    InSecond t = IsInLayer cells top layers.b t

    tells_first : (t : Tile) → IsInRows window t → Tells (is_wound A edges t) (InFirst t)
    tells_first t rows = tells_layer cells top window A layers.a first all covers t rows (edges_winding A edges t) (first_winds t)

    tells_second : (t : Tile) → IsInRows window t → Tells (is_wound B edges t) (InSecond t)
    tells_second t rows = tells_layer cells top window B layers.b second too covers_too t rows (edges_winding B edges t) (second_winds t)

    wound_by_decided : (t : Tile) → Decided (IsWoundBy layers.op edges window t)
    wound_by_decided t = tested window t (IsWoundBy layers.op edges window t) (takes layers.op (is_wound A edges t) (is_wound B edges t))
        (λ rows h. record { rows = rows; taken = h })
        (λ r. r.rows)
        (λ r. r.taken)

    -- what the sweep gives has the tiles that the operation takes of the layers
    pub layers_have : (traps : List Trapezoid) → IsJoinedOf window (IsWoundBy layers.op edges window) traps → HasArea window (OfLayers cells top layers) traps
    layers_have traps joined =
        joined_has window (IsWoundBy layers.op edges window) (OfLayers cells top layers) traps joined wound_by_decided
        (λ t h. (
          h.rows,
          taken_of layers.op (InFirst t) (InSecond t) (is_wound A edges t) (is_wound B edges t) (tells_first t h.rows) (tells_second t h.rows) h.taken,
        ))
        (λ t rows h. record {
          rows = rows;
          taken = of_taken layers.op (InFirst t) (InSecond t) (is_wound A edges t) (is_wound B edges t) (tells_first t rows) (tells_second t rows) h;
        })

-- ---- the loops

pub one_put : (xs new rest others target : List EdgeParts) (x : EdgeParts) → AddUpAlike new (xs ++ x ∷ [])
    → rest ≡ x ∷ others → AddUpAlike (xs ++ rest) target → AddUpAlike (new ++ others) target
one_put xs new rest others target x alike first all =
    alike_trans (new ++ others) ((xs ++ x ∷ []) ++ others) target (alike_append new (xs ++ x ∷ []) others others alike (alike_refl others))
    (subst (λ (ys : List EdgeParts). AddUpAlike ys target) (sym (append_assoc xs (x ∷ []) others ∙ ap (λ ys. xs ++ ys) (sym first))) all)

module _ (o : Operand) where
  abbrev of_all : List Corners → List EdgeParts
  of_all quads = flat_map (edges_of_quad o) quads

  pub ring_put : (quad : Corners) (rest others : List Corners) (edges new target : List EdgeParts)
      → AddUpAlike (edges ++ of_all rest) target → rest ≡ quad ∷ others
      → AddUpAlike new (edges ++ edges_of_quad o quad) → AddUpAlike (new ++ of_all others) target
  ring_put quad rest others edges new target all first alike =
      alike_trans (new ++ of_all others) ((edges ++ edges_of_quad o quad) ++ of_all others) target
      (alike_append new (edges ++ edges_of_quad o quad) (of_all others) (of_all others) alike (alike_refl (of_all others)))
      (subst (λ (ys : List EdgeParts). AddUpAlike ys target)
      (sym (append_assoc edges (edges_of_quad o quad) (of_all others) ∙ ap (λ qs. edges ++ of_all qs) (sym first))) all)

  pub all_put : (rest : List Corners) (edges target : List EdgeParts) → AddUpAlike (edges ++ of_all rest) target → rest ≡ [] → AddUpAlike edges target
  all_put rest edges target all none = subst (λ (ys : List EdgeParts). AddUpAlike ys target)
      (ap (λ qs. edges ++ of_all qs) none ∙ append-nil edges) all
