-- Set operations on two layers that nothing else takes.
use Rattle.std.proofs.Common.{◌≡◌, ◌≢◌, inl, inr, ℕ, Bool, true, false, List, Option, Some, None, if◌then◌else◌, slice_get, get_or}
use Rattle.std.proofs.Common.{refl, sym, ap, subst, arith}
use Rattle.std.proofs.lemmas.Option.{none-some, same_Some}
use Rattle.half_grid.specs.Trapezoids.{Trapezoid}
use Rattle.half_grid.specs.Windows.{RowRange}
use Rattle.half_grid.specs.declared.plane.Tile.{Tile}
use Rattle.layout_model.specs.declared.pair.Pair.{Pair}
use Rattle.layout_model.specs.declared.cells.Cell.{Cell}
use Rattle.cell_tree.specs.Flattening.{IsInLayer}
use Rattle.bool_ops.specs.declared.operations.Op.{Op}
use Rattle.bool_ops.specs.declared.operations.Op.TheVariants as ops
use Rattle.deck_text.specs.declared.deck.Step.{Step}
use Rattle.deck_text.specs.declared.deck.Step.TheVariants.{Layer, Or, And, Sub, Xor, Grow, Shrink, Invert, Mirror}
use Rattle.deck_text.specs.declared.deck.Deck.{Deck}
use Rattle.deck_text.specs.Sound.{IsSoundStep}
use Rattle.deck_plan.specs.declared.moving.Pair.{Pair as Operands}
use Rattle.deck_plan.specs.declared.needs.Need.{Need}
use Rattle.deck_plan.specs.declared.own_layers.Layers.{Layers}
use Rattle.deck_plan.specs.Areas.{IsInArea}
use Rattle.deck_plan.specs.Halos.{AreHalos, NeedIs}
use Rattle.deck_plan.specs.Lists.{HasArea, OfBoth}
use Rattle.deck_plan.specs.LayerSets.{OfLayers}
use Rattle.deck_plan.specs.Moves.{step_by}
use Rattle.deck_plan.specs.OwnLayers.{IsLeftOut, both_layers, is_only, layer_of, layers_by, operands, own_layer, own_layers, pair_of}
use Rattle.deck_plan.proofs.AreaLists.{same_area}
use Rattle.deck_plan.proofs.Slots.{one_slot}
use Rattle.deck_plan.proofs.StepLemmas.{area_step}

-- a set operation on two layers
pub record AreLayersOf (steps : List Step) (user : ℕ) (layers : Layers) : Type 0 where
  pub a : ℕ
  pub b : ℕ
  pub step : slice_get steps user ≡ Some (step_by layers.op a b)
  pub first : slice_get steps a ≡ Some (Layer layers.a)
  pub second : slice_get steps b ≡ Some (Layer layers.b)

pair_same : (op : Op) (a b : ℕ) (pair : Operands) → Some (operands op a b) ≡ Some pair → Some (step_by op a b) ≡ Some (step_by pair.op pair.a pair.b)
pair_same op a b pair e = ap (λ (p : Operands). Some (step_by p.op p.a p.b)) (same_Some (operands op a b) pair e)

pair_is : (found : Option Step) (pair : Operands) → pair_of found ≡ Some pair → found ≡ Some (step_by pair.op pair.a pair.b)
pair_is None pair e = absurd (none-some pair e)
pair_is (Some (Layer layer)) pair e = absurd (none-some pair e)
pair_is (Some (Or a b)) pair e = pair_same ops.Or a b pair e
pair_is (Some (And a b)) pair e = pair_same ops.And a b pair e
pair_is (Some (Sub a b)) pair e = pair_same ops.Sub a b pair e
pair_is (Some (Xor a b)) pair e = pair_same ops.Xor a b pair e
pair_is (Some (Grow a dx dy)) pair e = absurd (none-some pair e)
pair_is (Some (Shrink a dx dy)) pair e = absurd (none-some pair e)
pair_is (Some (Invert a)) pair e = absurd (none-some pair e)
pair_is (Some (Mirror a m)) pair e = absurd (none-some pair e)

layer_is : (found : Option Step) (layer : Pair) → layer_of found ≡ Some layer → found ≡ Some (Layer layer)
layer_is None layer e = absurd (none-some layer e)
layer_is (Some (Layer own)) layer e = ap (λ (p : Pair). Some (Layer p)) (same_Some own layer e)
layer_is (Some (Or a b)) layer e = absurd (none-some layer e)
layer_is (Some (And a b)) layer e = absurd (none-some layer e)
layer_is (Some (Sub a b)) layer e = absurd (none-some layer e)
layer_is (Some (Xor a b)) layer e = absurd (none-some layer e)
layer_is (Some (Grow a dx dy)) layer e = absurd (none-some layer e)
layer_is (Some (Shrink a dx dy)) layer e = absurd (none-some layer e)
layer_is (Some (Invert a)) layer e = absurd (none-some layer e)
layer_is (Some (Mirror a m)) layer e = absurd (none-some layer e)

own_by : (only : Bool) (found : Option Step) (layer : Pair) → (if only then layer_of found else None) ≡ Some layer → found ≡ Some (Layer layer)
own_by true found layer e = layer_is found layer e
own_by false found layer e = absurd (none-some layer e)

abbrev of_two : Op → Pair → Pair → Layers
of_two op a b = record { op = op; a = a; b = b }

module _ (steps : List Step) (needs : List (Option Need)) (user : ℕ) (layers : Layers) where
  own_is : (name : ℕ) (layer : Pair) → own_layer steps needs user name ≡ Some layer → slice_get steps name ≡ Some (Layer layer)
  own_is name layer e = own_by (is_only (get_or needs name None) user) (slice_get steps name) layer e

  by_layers : (pair : Operands) (first second : Option Pair) → pair_of (slice_get steps user) ≡ Some pair
      → own_layer steps needs user pair.a ≡ first → own_layer steps needs user pair.b ≡ second
      → both_layers pair.op first second ≡ Some layers → AreLayersOf steps user layers
  by_layers pair None second is one two e = absurd (none-some layers e)
  by_layers pair (Some a) None is one two e = absurd (none-some layers e)
  by_layers pair (Some a) (Some b) is one two e =
      subst (AreLayersOf steps user) (same_Some (of_two pair.op a b) layers e) (record {
        a = pair.a;
        b = pair.b;
        step = pair_is (slice_get steps user) pair is;
        first = own_is pair.a a one;
        second = own_is pair.b b two;
      })

  by_pair : (found : Option Operands) → pair_of (slice_get steps user) ≡ found → layers_by steps needs user found ≡ Some layers → AreLayersOf steps user layers
  by_pair None is e = absurd (none-some layers e)
  by_pair (Some pair) is e = by_layers pair (own_layer steps needs user pair.a) (own_layer steps needs user pair.b) is refl refl e

  pub layers_found : own_layers steps needs user ≡ Some layers → AreLayersOf steps user layers
  layers_found e = by_pair (pair_of (slice_get steps user)) refl e

-- ---- the area

-- an operation on sets with the same tiles
pub of_same : (op : Op) (P Q R S : Type 0) → (P → R) → (R → P) → (Q → S) → (S → Q) → OfBoth op P Q → OfBoth op R S
of_same ops.Or P Q R S f g h k (inl p) = inl (f p)
of_same ops.Or P Q R S f g h k (inr q) = inr (h q)
of_same ops.And P Q R S f g h k (p, q) = (f p, h q)
of_same ops.Sub P Q R S f g h k (p, q) = (f p, λ s. q (k s))
of_same ops.Xor P Q R S f g h k (inl (p, q)) = inl (f p, λ s. q (k s))
of_same ops.Xor P Q R S f g h k (inr (p, q)) = inr (λ r. p (g r), h q)

module _ (cells : List Cell) (top : ℕ) (deck : Deck) (sound : (k : ℕ) (step : Step) → slice_get deck.steps k ≡ Some step → IsSoundStep deck.frame k step) where
  abbrev Area : ℕ → Tile → Type 0
  Area n t = IsInArea cells top deck n t

  layer_area : (n : ℕ) (layer : Pair) → slice_get deck.steps n ≡ Some (Layer layer) → (t : Tile)
      → (Area n t → IsInLayer cells top layer t) × (IsInLayer cells top layer t → Area n t)
  layer_area n layer e t = area_step cells top deck sound n (Layer layer) e t

  both_area : (n a b : ℕ) (op : Op) → slice_get deck.steps n ≡ Some (step_by op a b) → (t : Tile)
      → (Area n t → OfBoth op (Area a t) (Area b t)) × (OfBoth op (Area a t) (Area b t) → Area n t)
  both_area n a b ops.Or e t = area_step cells top deck sound n (Or a b) e t
  both_area n a b ops.And e t = area_step cells top deck sound n (And a b) e t
  both_area n a b ops.Sub e t = area_step cells top deck sound n (Sub a b) e t
  both_area n a b ops.Xor e t = area_step cells top deck sound n (Xor a b) e t

  -- what the operation takes of the layers is the area of the definition
  pub layers_area : (window : RowRange) (n : ℕ) (layers : Layers) (traps : List Trapezoid) → AreLayersOf deck.steps n layers
      → HasArea window (OfLayers cells top layers) traps → HasArea window (Area n) traps
  layers_area window n layers traps are h =
      same_area window (OfLayers cells top layers) (Area n) traps
      (λ t rows taken.
      let a = layer_area are.a layers.a are.first t in
      let b = layer_area are.b layers.b are.second t in
      (both_area n are.a are.b layers.op are.step t).1
      (of_same layers.op (IsInLayer cells top layers.a t) (IsInLayer cells top layers.b t) (Area are.a t) (Area are.b t) a.1 a.0 b.1 b.0 taken))
      (λ t rows area.
      let a = layer_area are.a layers.a are.first t in
      let b = layer_area are.b layers.b are.second t in
      of_same layers.op (Area are.a t) (Area are.b t) (IsInLayer cells top layers.a t) (IsInLayer cells top layers.b t) a.0 a.1 b.0 b.1
      ((both_area n are.a are.b layers.op are.step t).0 area))
      h

-- ---- which lists are left out

-- what one definition alone takes, which sweeps over its layers itself
pub left_out : (deck : Deck) (name : ℕ) (needs : List (Option Need)) → AreHalos deck name 0 needs → (n : ℕ) (need : Need) → NeedIs needs n need
    → need.shared ≡ false → own_layers deck.steps needs need.last ≢ None → IsLeftOut deck needs n
left_out deck name needs halos n need here alone own user asked operand is takes same none =
    let o = halos.operands user asked operand (omega arith) is takes in
    let one : o.0 ≡ need = same_Some o.0 need (one_slot needs n (Some o.0) (Some need) (subst (λ k. NeedIs needs k o.0) same o.1) here) in
    let last : need.last ≡ user = subst (λ (x : Need). x.shared ≡ false → x.last ≡ user) one o.4 alone in
    own (subst (λ k. own_layers deck.steps needs k ≡ None) (sym last) none)
