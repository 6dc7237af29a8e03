-- Set operations whose list is that of an operand.
use Rattle.std.proofs.Common.{◌≡◌, ◌<◌, ◌↔◌, ℕ, List, Option, Some, None, IfSome, All, refl, sym, subst}
use Rattle.half_grid.specs.JoinedLists.{IsInWindow}
use Rattle.half_grid.specs.Trapezoids.{Trapezoid}
use Rattle.half_grid.specs.Windows.{RowRange}
use Rattle.half_grid.specs.declared.border.Operand.{Operand}
use Rattle.half_grid.specs.declared.border.Operand.TheVariants.{A, B}
use Rattle.half_grid.specs.declared.plane.Tile.{Tile}
use Rattle.half_grid.specs.declared.extent.Frame.{Frame}
use Rattle.layout_model.specs.declared.cells.Cell.{Cell}
use Rattle.square_size.specs.EdgeLaws.{IsInSome}
use Rattle.bool_ops.specs.declared.operations.Op.{Op}
use Rattle.bool_ops.specs.declared.operations.Op.TheVariants.{Or, And, Sub, Xor}
use Rattle.deck_text.specs.declared.deck.Step.{Step}
use Rattle.deck_text.specs.Sound.{IsSoundStep}
use Rattle.deck_plan.specs.declared.moving.Pair.{Pair}
use Rattle.deck_plan.specs.Areas.{IsInStep}
use Rattle.deck_plan.specs.Lists.{HasArea, IsJoinedSomewhere, IsListed, OfBoth, list_at}
use Rattle.deck_plan.specs.Moves.{list_of, name_of, step_by, step_of}
use Rattle.deck_plan.proofs.KeptLemmas.{kept_has, one_of_joined}

pub some_weaker : {X : Type 0} (found : Option X) (P Q : X → Type 0) → ((x : X) → P x → Q x) → IfSome found P → IfSome found Q
some_weaker None P Q f h = tt
some_weaker (Some x) P Q f h = f x h

by_sound : (frame : Option Frame) (n : ℕ) (op : Op) (a b : ℕ) → IsSoundStep frame n (step_by op a b) → (a < n) × (b < n)
by_sound frame n Or a b h = h
by_sound frame n And a b h = h
by_sound frame n Sub a b h = h
by_sound frame n Xor a b h = h

-- both operands stand before the step
pub pair_sound : (frame : Option Frame) (n : ℕ) (pair : Pair) (step : Step) → step ≡ step_of pair → IsSoundStep frame n step → (pair.a < n) × (pair.b < n)
pair_sound frame n pair step e h = by_sound frame n pair.op pair.a pair.b (subst (IsSoundStep frame n) e h)

pub name_sound : (n : ℕ) (pair : Pair) (operand : Operand) → (pair.a < n) × (pair.b < n) → name_of pair operand < n
name_sound n pair A h = h.0
name_sound n pair B h = h.1

listed : (lists : List (List Trapezoid)) (pair : Pair) (operand : Operand)
    → list_of operand (list_at lists pair.a) (list_at lists pair.b) ≡ list_at lists (name_of pair operand)
listed lists pair A = refl
listed lists pair B = refl

by_step : (cells : List Cell) (top : ℕ) (frame : Option Frame) (area : ℕ → Tile → Type 0) (op : Op) (a b : ℕ) (window : RowRange) (traps : List Trapezoid)
    → HasArea window (λ t. OfBoth op (area a t) (area b t)) traps → HasArea window (λ t. IsInStep cells top frame area (step_by op a b) t) traps
by_step cells top frame area Or a b window traps h = h
by_step cells top frame area And a b window traps h = h
by_step cells top frame area Sub a b window traps h = h
by_step cells top frame area Xor a b window traps h = h

-- the list of an operand is the one that the operation gives in the window
abbrev pub IsKept : RowRange → Op → Operand → List Trapezoid → List Trapezoid → Type 0
IsKept window op operand a b = All (IsInWindow window) (list_of operand a b)
    × ((t : Tile) → IsInSome (list_of operand a b) t ↔ OfBoth op (IsInSome a t) (IsInSome b t))

pub kept_of : (window : RowRange) (op : Op) (operand : Operand) (a c b d : List Trapezoid) → a ≡ c → b ≡ d
    → IsKept window op operand a b → IsKept window op operand c d
kept_of window op operand a c b d e f h = subst (λ (y : List Trapezoid). IsKept window op operand c y) f
    (subst (λ (x : List Trapezoid). IsKept window op operand x b) e h)

module _ (lists : List (List Trapezoid)) (joined : (a : ℕ) → IsJoinedSomewhere (list_at lists a)) (pair : Pair) (operand : Operand) (window : RowRange) where
  kept_area : IsKept window pair.op operand (list_at lists pair.a) (list_at lists pair.b)
      → HasArea window (λ t. OfBoth pair.op (IsListed lists pair.a t) (IsListed lists pair.b t))
      (list_at lists (name_of pair operand))
  kept_area h =
      subst (HasArea window (λ t. OfBoth pair.op (IsListed lists pair.a t) (IsListed lists pair.b t))) (listed lists pair operand)
      (kept_has window (λ t. OfBoth pair.op (IsListed lists pair.a t) (IsListed lists pair.b t)) (list_of operand (list_at lists pair.a) (list_at lists pair.b))
      (one_of_joined operand (list_at lists pair.a) (list_at lists pair.b) (joined pair.a) (joined pair.b)) h.0 h.1)

  -- the list of the operand is that of the step
  pub moved_area : (step : Step) → step ≡ step_of pair → IsKept window pair.op operand (list_at lists pair.a) (list_at lists pair.b)
      → (cells : List Cell) (top : ℕ) (frame : Option Frame)
      → HasArea window (λ t. IsInStep cells top frame (IsListed lists) step t)
      (list_at lists (name_of pair operand))
  moved_area step e h cells top frame =
      subst (λ (s : Step). HasArea window (λ t. IsInStep cells top frame (IsListed lists) s t) (list_at lists (name_of pair operand))) (sym e)
      (by_step cells top frame (IsListed lists) pair.op pair.a pair.b window (list_at lists (name_of pair operand)) (kept_area h))
