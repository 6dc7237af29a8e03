-- The area of quadrilaterals, united some at a time.
use Rattle.std.proofs.Common.{◌≡◌, ◌∙◌, ℕ, ◌⊎◌, inl, inr, List, [], ◌∷◌, ◌++◌, flat_map, All, refl, ap, sym, subst, arith, append_assoc, append-nil}
use Rattle.std.proofs.lemmas.List.Concat.{flat_map-append}
use Rattle.std.proofs.lemmas.List.Elements.{All-nil, All-cons, All-head, All-tail}
use Rattle.std.proofs.lemmas.Int.{ints}
use Rattle.half_grid.specs.Edges.{EdgeParts, edges_winding}
use Rattle.half_grid.specs.Quads.{Corners, ring_of, IsQuad}
use Rattle.half_grid.specs.Trapezoids.{Trapezoid}
use Rattle.half_grid.specs.Windows.{RowRange}
use Rattle.half_grid.specs.Winding.{IsInPolygon}
use Rattle.half_grid.specs.declared.border.Operand.TheVariants.{A}
use Rattle.half_grid.specs.declared.plane.Tile.{Tile}
use Rattle.square_size.specs.EdgeLaws.{IsInSome}
use Rattle.column_sweep.specs.RowSums.{AddUpAlike}
use Rattle.column_sweep.proofs.ForCallers.{alike_refl, alike_trans, alike_append, winding_alike}
use Rattle.layout_model.specs.declared.pair.Pair.{Pair}
use Rattle.layout_model.specs.declared.cells.Cell.{Cell}
use Rattle.cell_tree.specs.Flattening.{IsInLayer}
use Rattle.cell_tree.proofs.ForCallers.{has_any, any_has, has_left, has_right, has_split}
use Rattle.flat_walk.specs.Walks.{CoversLayer}
use Rattle.bool_ops.specs.Operations.{IsInResult, IsJoinedOf, IsWoundIn}
use Rattle.bool_ops.specs.declared.operations.Op.TheVariants.{Or}
use Rattle.deck_plan.specs.declared.own_layers.Layers.{Layers}
use Rattle.deck_plan.specs.LayerSets.{OfLayers}
use Rattle.deck_plan.specs.Lists.{HasArea, OfBoth}
use Rattle.deck_plan.specs.Rings.{edges_of_quad, IsInSomeQuad}
use Rattle.deck_plan.proofs.AreaLists.{joined_has, same_area, combined_has}
use Rattle.deck_plan.proofs.OwnLayerLemmas.{of_same}
use Rattle.deck_plan.proofs.Quads.{ArePut, winds, quads_wind}
use Rattle.deck_plan.proofs.Sizes.{wound_decided}

abbrev In : Tile → Corners → Type 0
In t q = IsInPolygon (ring_of q) t

-- what the edges of quadrilaterals wind round is what these have
pub quads_have : (window : RowRange) (quads : List Corners) (edges : List EdgeParts) → All IsQuad quads → ArePut A quads edges
    → (traps : List Trapezoid) → IsJoinedOf window (IsWoundIn edges window) traps → HasArea window (IsInSomeQuad quads) traps
quads_have window quads edges all put traps joined =
    joined_has window (IsWoundIn edges window) (IsInSomeQuad quads) traps joined (wound_decided edges window)
    (λ t h. (h.rows, elim (quads_wind A quads t all) [ inl k ↦ has_any (In t) quads k.0 | inr k ↦ absurd (h.wound (same t ∙ k.1)) ]))
    (λ t rows any. record {
      rows = rows;
      wound = λ e. elim (quads_wind A quads t all) [
        | inl k ↦ (let more = k.1 in let is = same t in omega (arith, ints, more, is, e))
        | inr k ↦ k.0 (any_has (In t) quads any)
      ];
    })
  where
    same : (t : Tile) → edges_winding A edges t ≡ winds A quads t
    same t = winding_alike A t edges (flat_map (edges_of_quad A) quads) put

-- the edges of one quadrilateral, and then of some more
pub batch_put : (quad : Corners) (batch : List Corners) (none first both : List EdgeParts) → none ≡ []
    → AddUpAlike first (none ++ edges_of_quad A quad) → AddUpAlike both (first ++ flat_map (edges_of_quad A) batch) → ArePut A (quad ∷ batch) both
batch_put quad batch none first both empty one more =
    alike_trans both (first ++ flat_map (edges_of_quad A) batch) (edges_of_quad A quad ++ flat_map (edges_of_quad A) batch) more
    (alike_append first (edges_of_quad A quad) (flat_map (edges_of_quad A) batch) (flat_map (edges_of_quad A) batch)
    (subst (λ (xs : List EdgeParts). AddUpAlike first (xs ++ edges_of_quad A quad)) empty one) (alike_refl (flat_map (edges_of_quad A) batch)))

-- with the tiles of some more
pub more_have : (window : RowRange) (done more : List Corners) (area part both : List Trapezoid) → HasArea window (IsInSomeQuad done) area
    → HasArea window (IsInSomeQuad more) part → IsJoinedOf window (IsInResult Or area part window) both → HasArea window (IsInSomeQuad (done ++ more)) both
more_have window done more area part both before now joined =
    same_area window (λ t. IsInSome area t ⊎ IsInSome part t) (IsInSomeQuad (done ++ more)) both
    (λ t rows h. elim h [
      | inl a ↦ has_any (In t) (done ++ more) (has_left (In t) done more (any_has (In t) done (before.inside t a).1))
      | inr a ↦ has_any (In t) (done ++ more) (has_right (In t) done more (any_has (In t) more (now.inside t a).1))
    ])
    (λ t rows any. elim (has_split (In t) done more (any_has (In t) (done ++ more) any)) [
      | inl h ↦ inl (before.all t rows (has_any (In t) done h))
      | inr h ↦ inr (now.all t rows (has_any (In t) more h))
    ])
    (combined_has Or area part window both joined)

-- the pieces of a layer have its tiles
pub layer_of : (cells : List Cell) (top : ℕ) (pair : Pair) (window : RowRange) (quads : List Corners) → CoversLayer cells top pair window quads
    → (traps : List Trapezoid) → HasArea window (IsInSomeQuad quads) traps → HasArea window (IsInLayer cells top pair) traps
layer_of cells top pair window quads covers traps =
    same_area window (IsInSomeQuad quads) (IsInLayer cells top pair) traps
    (λ t rows h. (covers t rows.from rows.below).0 h) (λ t rows h. (covers t rows.from rows.below).1 h)

-- ---- the loop over a stream

-- so many were put, and the stream has the rest
abbrev pub PutSome : (List Corners → Type 0) → List Corners → List EdgeParts → List EdgeParts → Type 0
PutSome Left list old edges =
    (batch rest : List Corners) × (list ≡ batch ++ rest) × Left rest × AddUpAlike edges (old ++ flat_map (edges_of_quad A) batch)

pub none_put : (Left : List Corners → Type 0) (list : List Corners) (edges : List EdgeParts) → Left list → PutSome Left list edges edges
none_put Left list edges left = (
  [],
  list,
  refl,
  left,
  subst (λ (xs : List EdgeParts). AddUpAlike edges xs) (sym (append-nil edges)) (alike_refl edges),
)

pub one_put_more : (Left Next : List Corners → Type 0) (list : List Corners) (old edges new : List EdgeParts) (quad : Corners)
    → ((rest : List Corners) → Left rest → (others : List Corners) × (rest ≡ quad ∷ others) × Next others)
    → AddUpAlike new (edges ++ edges_of_quad A quad) → PutSome Left list old edges → PutSome Next list old new
one_put_more Left Next list old edges new quad next put (batch, rest, e, left, alike) =
    let k = next rest left in
    let fm : List Corners → List EdgeParts = λ qs. flat_map (edges_of_quad A) qs in (
      batch ++ quad ∷ [],
      k.0,
      e ∙ ap (λ (qs : List Corners). batch ++ qs) k.1 ∙ sym (append_assoc batch (quad ∷ []) k.0),
      k.2,
      alike_trans new (edges ++ edges_of_quad A quad) (old ++ fm (batch ++ quad ∷ [])) put
          (subst (λ (xs : List EdgeParts). AddUpAlike (edges ++ edges_of_quad A quad) xs)
          (append_assoc old (fm batch) (edges_of_quad A quad)
          ∙ ap (λ (xs : List EdgeParts). old ++ (fm batch ++ xs)) (sym (append-nil (edges_of_quad A quad)))
          ∙ ap (λ (xs : List EdgeParts). old ++ xs) (sym (flat_map-append (edges_of_quad A) batch (quad ∷ []))))
          (alike_append edges (old ++ fm batch) (edges_of_quad A quad) (edges_of_quad A quad) alike (alike_refl (edges_of_quad A quad)))),
    )

pub none_are_put : (edges : List EdgeParts) → edges ≡ [] → ArePut A [] edges
none_are_put edges none = subst (λ (es : List EdgeParts). AddUpAlike es []) (sym none) (alike_refl [])

all_right : (P : Corners → Type 0) (xs ys : List Corners) → All P (xs ++ ys) → All P ys
all_right P [] ys h = h
all_right P (x ∷ xs) ys h = all_right P xs ys (All-tail P x (xs ++ ys) h)

all_left : (P : Corners → Type 0) (xs ys : List Corners) → All P (xs ++ ys) → All P xs
all_left P [] ys h = All-nil P
all_left P (x ∷ xs) ys h = All-cons P x xs (All-head P x (xs ++ ys) h) (all_left P xs ys (All-tail P x (xs ++ ys) h))

-- those of a batch, among all
module _ (list done rest others batch later : List Corners) (quad : Corners) (all : list ≡ done ++ rest) (first : rest ≡ quad ∷ others)
    (some : others ≡ batch ++ later) where
  pub list_is : list ≡ (done ++ quad ∷ batch) ++ later
  list_is = all ∙ ap (λ (qs : List Corners). done ++ qs) (first ∙ ap (λ (qs : List Corners). quad ∷ qs) some) ∙ sym (append_assoc done (quad ∷ batch) later)

  pub batch_all : (P : Corners → Type 0) → All P list → All P (quad ∷ batch)
  batch_all P h = all_left P (quad ∷ batch) later
      (all_right P done ((quad ∷ batch) ++ later) (subst (All P) (list_is ∙ append_assoc done (quad ∷ batch) later) h))

-- what an operation takes of the lists of two layers
pub layers_of : (cells : List Cell) (top : ℕ) (layers : Layers) (window : RowRange) (first second both : List Trapezoid)
    → HasArea window (IsInLayer cells top layers.a) first → HasArea window (IsInLayer cells top layers.b) second
    → IsJoinedOf window (IsInResult layers.op first second window) both → HasArea window (OfLayers cells top layers) both
layers_of cells top layers window first second both a b joined =
    same_area window (λ t. OfBoth layers.op (IsInSome first t) (IsInSome second t)) (OfLayers cells top layers) both
    (λ t rows h. of_same layers.op (IsInSome first t) (IsInSome second t) (IsInLayer cells top layers.a t) (IsInLayer cells top layers.b t)
    (λ i. (a.inside t i).1) (λ i. a.all t rows i) (λ i. (b.inside t i).1) (λ i. b.all t rows i) h)
    (λ t rows h. of_same layers.op (IsInLayer cells top layers.a t) (IsInLayer cells top layers.b t) (IsInSome first t) (IsInSome second t)
    (λ i. a.all t rows i) (λ i. (a.inside t i).1) (λ i. b.all t rows i) (λ i. (b.inside t i).1) h)
    (combined_has layers.op first second window both joined)
