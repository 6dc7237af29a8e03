-- Areas of equal steps over layouts whose layers have the same areas.
use Rattle.std.proofs.Common.{◌≡◌, inl, inr, ℕ, zero, suc, List, length, Option, Some, None, refl, sym, ap, subst, ◌∙◌, arith}
use Rattle.std.specs.Prelude.{◌↔◌, slice_get, IsSomeAnd}
use Rattle.std.proofs.lemmas.Bool.{cases_lt}
use Rattle.half_grid.specs.Trapezoids.{Trapezoid, CoversExactly, count_in}
use Rattle.half_grid.specs.declared.extent.Frame.{Frame}
use Rattle.half_grid.specs.declared.plane.Tile.{Tile}
use Rattle.layout_model.specs.declared.cells.Cell.{Cell}
use Rattle.layout_model.specs.declared.pair.Pair.{Pair}
use Rattle.cell_tree.specs.Flattening.{IsInLayer}
use Rattle.deck_text.specs.declared.deck.Step.{Step}
use Rattle.deck_text.specs.declared.deck.Step.TheVariants.{Layer, Or, And, Sub, Xor, Grow, Shrink, Invert, Mirror}
use Rattle.deck_text.specs.declared.deck.Output.{Output}
use Rattle.deck_text.specs.declared.deck.Deck.{Deck}
use Rattle.deck_plan.specs.Areas.{IsInStep, area_over, IsInArea, IsInOutput}
use Rattle.deck_plan.specs.Plans.{Planned, planned_area}
use Rattle.shot_output.specs.Files.{text_of}
use Rattle.shot_output.specs.Laws.{HaveSameLayers, SameLayersSameFiles, with_rows, BandsCoverTheSame}
use Rattle.shot_output.proofs.LawLemmas.{one_shot_list, shots_cover}

-- ---- a step

step_same : (cells : List Cell) (top : ℕ) (others : List Cell) (other_top : ℕ) (frame : Option Frame) (A B : ℕ → Tile → Type 0)
    → ((n : ℕ) (t : Tile) → A n t ↔ B n t) → (step : Step)
    → ((pair : Pair) (t : Tile) → step ≡ Layer pair → IsInLayer cells top pair t ↔ IsInLayer others other_top pair t)
    → (t : Tile) → IsInStep cells top frame A step t ↔ IsInStep others other_top frame B step t
step_same cells top others other_top frame A B same (Layer pair) layers t = layers pair t refl
step_same cells top others other_top frame A B same (Or a b) layers t = (
  λ x. elim x [ inl h ↦ inl ((same a t).0 h) | inr h ↦ inr ((same b t).0 h) ],
  λ x. elim x [ inl h ↦ inl ((same a t).1 h) | inr h ↦ inr ((same b t).1 h) ],
)
step_same cells top others other_top frame A B same (And a b) layers t = (
  λ x. ((same a t).0 x.0, (same b t).0 x.1),
  λ x. ((same a t).1 x.0, (same b t).1 x.1),
)
step_same cells top others other_top frame A B same (Sub a b) layers t = (
  λ x. ((same a t).0 x.0, λ h. x.1 ((same b t).1 h)),
  λ x. ((same a t).1 x.0, λ h. x.1 ((same b t).0 h)),
)
step_same cells top others other_top frame A B same (Xor a b) layers t = (
  λ x. elim x [
    | inl h ↦ inl ((same a t).0 h.0, λ g. h.1 ((same b t).1 g))
    | inr h ↦ inr (λ g. h.0 ((same a t).1 g), (same b t).0 h.1)
  ],
  λ x. elim x [
    | inl h ↦ inl ((same a t).1 h.0, λ g. h.1 ((same b t).0 g))
    | inr h ↦ inr (λ g. h.0 ((same a t).0 g), (same b t).1 h.1)
  ],
)
step_same cells top others other_top frame A B same (Grow a dx dy) layers t = (
  λ x. (x.0, (same a x.0).0 x.1, x.2),
  λ x. (x.0, (same a x.0).1 x.1, x.2),
)
step_same cells top others other_top frame A B same (Shrink a dx dy) layers t = (
  λ x u near. (same a u).0 (x u near),
  λ x u near. (same a u).1 (x u near),
)
step_same cells top others other_top frame A B same (Invert a) layers t = (
  λ x. (x.0, λ h. x.1 ((same a t).1 h)),
  λ x. (x.0, λ h. x.1 ((same a t).0 h)),
)
step_same cells top others other_top frame A B same (Mirror a m) layers t = same a _

-- ---- all steps

module _ (cells : List Cell) (top : ℕ) (others : List Cell) (other_top : ℕ) (d e : Deck) (steps : d.steps ≡ e.steps)
    (frame : d.frame ≡ e.frame) (layers : HaveSameLayers d cells top others other_top) where
  named_same : (A B : ℕ → Tile → Type 0) → ((n : ℕ) (t : Tile) → A n t ↔ B n t) → (n : ℕ) (t : Tile) (step : Option Step) → slice_get d.steps n ≡ step
      → IsSomeAnd step (λ s. IsInStep cells top d.frame A s t) ↔ IsSomeAnd step (λ s. IsInStep others other_top e.frame B s t)
  named_same A B same n t None is = (λ x. x, λ x. x)
  named_same A B same n t (Some step) is =
      subst (λ (f : Option Frame). IsInStep cells top d.frame A step t ↔ IsInStep others other_top f B step t) frame
      (step_same cells top others other_top d.frame A B same step (λ pair u layer. layers n pair u (is ∙ ap (λ (s : Step). Some s) layer)) t)

  over_same : (s n : ℕ) (t : Tile) → area_over cells top d s n t ↔ area_over others other_top e s n t
  over_same zero n t = (λ x. x, λ x. x)
  over_same (suc s) n t =
      let A = area_over cells top d s in
      let B = area_over others other_top e s in
      subst (λ (ss : List Step). area_over cells top d (suc s) n t ↔ IsSomeAnd (slice_get ss n) (λ step. IsInStep others other_top e.frame B step t)) steps
      (named_same A B (over_same s) n t (slice_get d.steps n) refl)

  area_same : (n : ℕ) (t : Tile) → IsInArea cells top d n t ↔ IsInArea others other_top e n t
  unfolding IsInArea
  area_same n t =
      subst (λ (s : ℕ). area_over cells top d (length d.steps) n t ↔ area_over others other_top e s n t) (ap (λ (ss : List Step). length ss) steps)
      (over_same (length d.steps) n t)

  output_named : (t : Tile) (output : Option Output)
      → IsSomeAnd output (λ o. IsInArea cells top d o.name t) ↔ IsSomeAnd output (λ o. IsInArea others other_top e o.name t)
  output_named t None = (λ x. x, λ x. x)
  output_named t (Some output) = area_same output.name t

  pub output_same : d.outputs ≡ e.outputs → (k : ℕ) (t : Tile) → IsInOutput cells top d k t ↔ IsInOutput others other_top e k t
  output_same outputs k t =
      subst (λ (os : List Output). IsInOutput cells top d k t ↔ IsSomeAnd (slice_get os k) (λ o. IsInArea others other_top e o.name t)) outputs
      (output_named t (slice_get d.outputs k))

-- ---- the laws

pub same_layers_same_files : SameLayersSameFiles
same_layers_same_files deck cells top others other_top k output xs ys h layers s z =
    let p : Planned = record { deck = deck; cells = cells; top = top } in
    let q : Planned = record { deck = deck; cells = others; top = other_top } in
    ap (text_of deck output) (one_shot_list p q k k xs ys h refl refl (output_same cells top others other_top deck deck refl refl layers refl k) s z)

-- lists that cover one area have a tile in as many of their trapezoids
one_count : (area other : Tile → Type 0) (t : Tile) (xs ys : List Trapezoid) → area t ↔ other t → CoversExactly xs area → CoversExactly ys other
    → count_in xs t ≡ count_in ys t
one_count area other t xs ys same c d =
    let alike : ((count_in xs t ≡ count_in ys t) → ⊥) → ⊥ = λ apart.
    (let none : area t → ⊥ = λ has. apart (c.once t has ∙ sym (d.once t (same.0 has))) in
    apart (c.never t none ∙ sym (d.never t (λ has. none (same.1 has))))) in
    elim (cases_lt (count_in xs t) (count_in ys t)) [
      | inl less ↦ absurd (alike (λ e. absurd (omega (arith, e, less))))
      | inr more ↦ elim (cases_lt (count_in ys t) (count_in xs t)) [
        | inl less ↦ absurd (alike (λ e. absurd (omega (arith, e, less))))
        | inr no_more ↦ omega (arith, more, no_more)
      ]
    ]

pub bands_cover_the_same : BandsCoverTheSame
bands_cover_the_same p rows k xs ys h g s z t =
    let e : Deck = record p.deck { band = rows } in
    one_count (planned_area p k) (planned_area (with_rows p rows) k) t xs ys
    (output_same p.cells p.top p.cells p.top p.deck e refl refl (λ n pair u is. (λ x. x, λ x. x)) refl k t)
    (shots_cover p k xs h s) (shots_cover (with_rows p rows) k ys g z)
